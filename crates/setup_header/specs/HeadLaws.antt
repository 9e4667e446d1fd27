-- What the head of a packet says, by the places of its bits (Vorbis I, section 4.3.1).
use Rattle.std.specs.Prelude.{◌≡◌, ◌≢◌, ℕ, ◌+◌, ◌-◌, ◌<◌, List, length, Option, Some, None, Bool, true, false, ◌==◌, slice_index_or}
use Rattle.model_bits.specs.Places.{number_at}
use Rattle.model_setup.specs.declared.setup.PacketHead.{PacketHead}
use Rattle.model_setup.specs.declared.setup.PacketHead.TheVariants.{Skip, Bad, Block}
use Rattle.model_setup.specs.BookReading.{ilog}
use Rattle.model_setup.specs.AudioHead.{head_of}

-- the bit is there, and the flag says whether it is set
abbrev pub IsFlag : Option ℕ → Bool → Type 0
IsFlag None flag = ⊥
IsFlag (Some bit) flag = flag ≡ (bit == 1)

-- the window flags of a long block stand at this place and the next; those of a short one are
-- false, and stand nowhere
abbrev pub AreWindowFlags : Bool → List ℕ → ℕ → Bool → Bool → Type 0
AreWindowFlags true bytes place prev next =
    IsFlag (number_at bytes place 1) prev × IsFlag (number_at bytes (place + 1) 1) next
AreWindowFlags false bytes place prev next = (prev ≡ false) × (next ≡ false)

-- how many bits name one of the modes that have these block flags
abbrev pub mode_width : List Bool → ℕ
mode_width long_flags = ilog (length long_flags - 1)

-- behind its first bit a packet names a mode that is there, and has the window flags of its block
pub record NamesBlock (long_flags : List Bool) (bytes : List ℕ) (mode : ℕ) (prev next : Bool)
    : Type 0 where
  pub named : number_at bytes 1 (mode_width long_flags) ≡ Some mode
  pub there : mode < length long_flags
  pub windows : AreWindowFlags (slice_index_or long_flags mode false) bytes
      (1 + mode_width long_flags) prev next

-- the first bit of an audio packet is 0
abbrev pub IsAudio : List ℕ → Type 0
IsAudio bytes = number_at bytes 0 1 ≡ Some 0

-- a head is passed over exactly where the packet is no audio packet, tells the block that an audio
-- packet names, and is bad where it names none
abbrev pub IsHead : List Bool → List ℕ → PacketHead → Type 0
IsHead long_flags bytes Skip = number_at bytes 0 1 ≢ Some 0
IsHead long_flags bytes (Block mode prev next) =
    IsAudio bytes × NamesBlock long_flags bytes mode prev next
IsHead long_flags bytes Bad =
    IsAudio bytes
    × ((mode : ℕ) (prev next : Bool) → NamesBlock long_flags bytes mode prev next → ⊥)

-- each packet's head is what its bits say at their places
abbrev pub HeadGoesByPlaces : Type 0
HeadGoesByPlaces =
    (long_flags : List Bool) (bytes : List ℕ) → IsHead long_flags bytes (head_of long_flags bytes)
