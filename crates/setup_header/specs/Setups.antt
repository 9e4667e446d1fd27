-- What a setup lends, and what its private parts keep.
use Rattle.std.specs.Prelude.{◌≡◌, ℕ, ◌<◌, ◌≤◌, List, [], ◌∷◌, ◌++◌, length, Option, option_and_then, Ok, Bool, slice_get}
use Rattle.std.specs.List.{All}
use Rattle.model_bits.specs.Writing.{WasRead}
use Rattle.model_setup.specs.SetupPacket.{Mapping, Mode, SetupFields, setup_at, setup_of}
use Rattle.model_setup.specs.AudioHead.{long_flags_of}

-- the mapping of the mode of a number, where there is that mode
abbrev pub mapping_of : SetupFields → ℕ → Option Mapping
mapping_of setup number =
    option_and_then (λ (mode : Mode). slice_get setup.mappings mode.mapping)
    (slice_get setup.modes number)

-- flags that are those of the modes, of which each names one of so many mappings
pub record AreModes (mappings : ℕ) (modes : List Mode) (long_flags : List Bool) : Type 0 where
  pub named : All (λ (mode : Mode). mode.mapping < mappings) modes
  pub flags : long_flags ≡ long_flags_of modes

-- how many channels the first of these mappings has
abbrev pub channels_in : List Mapping → ℕ
channels_in [] = 0
channels_in (mapping ∷ mappings) = length mapping.mux

-- how many channels the streams of a setup have
abbrev pub channels_of : SetupFields → ℕ
channels_of setup = channels_in setup.mappings

-- a mapping of so many channels as a stream may have
abbrev pub HasFewChannels : Mapping → Type 0
HasFewChannels mapping = length mapping.mux ≤ 8

-- a setup that was read of some packet
pub record WasSetup (setup : SetupFields) : Type 0 where
  pub few : All HasFewChannels setup.mappings
  pub read : WasRead (setup_at (channels_of setup)) setup

-- bytes that are read as this setup, whatever bytes follow them
abbrev pub AreReadAs : SetupFields → List ℕ → Type 0
AreReadAs setup bytes =
    (others : List ℕ) → setup_of (channels_of setup) (bytes ++ others) ≡ Ok setup

-- the parts of a setup that was read, and the flags of its modes
pub record IsSetupOf (setup : SetupFields) (long_flags : List Bool) : Type 0 where
  pub flags : AreModes (length setup.mappings) setup.modes long_flags
  pub was : WasSetup setup
