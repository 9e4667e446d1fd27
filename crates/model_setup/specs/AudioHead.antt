-- The head of an audio packet (Vorbis I, section 4.3.1).
use Rattle.std.specs.Prelude.{ℕ, ◌-◌, List, length, map, Option, Some, None, Result, Ok, Err, Bool, false, ◌==◌, nat_lt, if◌then◌else◌, slice_index_or}
use Rattle.model_bits.specs.Bits.{bits_of, take_bits}
use Rattle.model_bits.specs.Reading.{PacketReading, ◌>>=◌, ◌>>◌, give, require, packet_bits}
use Rattle.model_setup.specs.declared.setup.PacketHead.{PacketHead}
use Rattle.model_setup.specs.declared.setup.PacketHead.TheVariants.{Skip, Bad, Block}
use Rattle.model_setup.specs.BookReading.{ilog}
use Rattle.model_setup.specs.SetupPacket.{Mode}

-- the block flag of each mode: whether its blocks are long
abbrev pub long_flags_of : List Mode → List Bool
long_flags_of modes = map (λ (mode : Mode). mode.long) modes

-- the window flags of a long block; a short block has none
unfoldable pub window_flags_at : Bool → PacketReading (Bool × Bool)
window_flags_at long =
    if long
    then (do
      prev ← packet_bits 1
      next ← packet_bits 1
      give (prev == 1, next == 1))
    else give (false, false)

-- the mode and the window flags of a block, where the modes have these block flags
unfoldable pub block_head_at : List Bool → PacketReading PacketHead
block_head_at long_flags = do
  mode ← packet_bits (ilog (length long_flags - 1))
  require (nat_lt mode (length long_flags)) tt
  flags ← window_flags_at (slice_index_or long_flags mode false)
  give (Block mode flags.0 flags.1)

abbrev pub or_bad : Result (PacketHead × List Bool) (Unit {0}) → PacketHead
or_bad (Ok read) = read.0
or_bad (Err e) = Bad

-- by the packet's first bit, which is 0 in an audio packet
abbrev pub head_by_kind : List Bool → Option (ℕ × List Bool) → PacketHead
head_by_kind long_flags None = Skip
head_by_kind long_flags (Some kind) =
    if kind.0 == 0 then or_bad (block_head_at long_flags kind.1) else Skip

-- the head of a packet, where the modes have these block flags
unfoldable pub head_of : List Bool → List ℕ → PacketHead
head_of long_flags bytes = head_by_kind long_flags (take_bits 1 (bits_of bytes))
