-- How many channels a setup has that was read for so many.
use Rattle.std.proofs.Common.{◌≡◌, ℕ, ◌<◌, ◌≤◌, List, [], ◌∷◌, length, false, arith}
use Rattle.std.specs.List.{All}
use Rattle.model_setup.specs.SetupPacket.{Mapping, Mode, SetupFields, IsMapping, IsSetup}
use Rattle.setup_header.specs.Setups.{channels_in, channels_of, HasFewChannels}

first_channels : (channels floors residues : ℕ) (mappings : List Mapping) → All (IsMapping channels floors residues) mappings → 0 < length mappings → channels_in mappings ≡ channels
first_channels channels floors residues [] all some = absurd (omega arith)
first_channels channels floors residues (mapping ∷ mappings) all some = (all 0 mapping (omega arith)).all_channels

pub channels_are : (channels : ℕ) (setup : SetupFields) → IsSetup channels setup → channels_of setup ≡ channels
channels_are channels setup whole =
    let mode : Mode = record { long = false; mapping = 0 } in
    let named = whole.modes 0 mode whole.some_mode in
    first_channels channels (length setup.floors) (length setup.residues) setup.mappings whole.mappings (omega arith)

pub few_channels : (channels : ℕ) (setup : SetupFields) → channels ≤ 8 → IsSetup channels setup → All HasFewChannels setup.mappings
few_channels channels setup few whole k d lt =
    let all = (whole.mappings k d lt).all_channels in
    omega (arith, few, all)
