-- Laws of the form in which a setup packet is written (Vorbis I, section 4.2.4).
use Rattle.std.specs.Prelude.{◌≡◌, ℕ, List, ◌++◌, Ok, All}
use Rattle.model_bits.specs.Bits.{bits_of}
use Rattle.model_bits.specs.Writing.{HasPlace, bits_of_fields, WasRead, Rewrites, filled}
use Rattle.model_setup.specs.SetupPacket.{SetupFields, setup_at, setup_of}
use Rattle.model_writing.specs.SetupWriting.{setup_fields}

-- A setup that was read of some bits is read again where it is written, whatever bits follow.
abbrev pub SetupsReadBack : Type 0
SetupsReadBack = (channels : ℕ) → Rewrites (setup_at channels) setup_fields

-- Each field of a setup that was read has a place in its width.
abbrev pub SetupFieldsHavePlaces : Type 0
SetupFieldsHavePlaces =
    (channels : ℕ) (setup : SetupFields) → WasRead (setup_at channels) setup
    → All HasPlace (setup_fields setup)

-- It is read again from bytes that its fields fill, whatever bytes follow.
abbrev pub SetupPacketsReadBack : Type 0
SetupPacketsReadBack =
    (channels : ℕ) (setup : SetupFields) (bytes others : List ℕ)
    → WasRead (setup_at channels) setup
    → bits_of bytes ≡ filled (bits_of_fields (setup_fields setup))
    → setup_of channels (bytes ++ others) ≡ Ok setup

-- The setup of a packet that is accepted was read of some bits, so that all of this holds of it.
abbrev pub SetupsOfPacketsWereRead : Type 0
SetupsOfPacketsWereRead =
    (channels : ℕ) (setup : SetupFields) (packet : List ℕ)
    → setup_of channels packet ≡ Ok setup → WasRead (setup_at channels) setup
