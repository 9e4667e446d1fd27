-- The block of one audio packet: the values of its channels under its window (Vorbis I, section
-- 4.3), from its setup, its link's block sizes and the constants of the synthesis.
use Rattle.std.specs.Prelude.{ℕ, ◌/◌, Bool, false, ℤ, pos, if◌then◌else◌, List, [], ◌∷◌, length, map, drop, replicate, Option, Some, None, Result, Ok, Err, is_some, slice_index_or}
use Rattle.std.specs.List.{range_with_len}
use Rattle.std.specs.Option.{option_map_or}
use Rattle.model_bits.specs.Bits.{bits_of}
use Rattle.model_setup.specs.declared.setup.PacketHead.{PacketHead}
use Rattle.model_setup.specs.declared.setup.PacketHead.TheVariants as heads
use Rattle.model_setup.specs.AudioHead.{block_head_at}
use Rattle.model_setup.specs.SetupPacket.{Mapping, Mode, SetupFields}
use Rattle.model_synthesis.specs.declared.window_form.WindowForm.{WindowForm}
use Rattle.model_synthesis.specs.Tables.{ConstantTables}
use Rattle.model_synthesis.specs.Coupling.{channel, without_steps}
use Rattle.model_synthesis.specs.Spectrum.{shaped}
use Rattle.model_synthesis.specs.Transform.{transformed}
use Rattle.model_synthesis.specs.Windows.{window_form, windowed}
use Rattle.model_line.specs.Origins.{size_of}
use Rattle.model_line.specs.PacketRows.{block_flags}
use Rattle.model_block.specs.declared.sizes.BlockSizes.{BlockSizes}
use Rattle.model_block.specs.PacketParts.{channel_curves, wanted_channels, channel_residues}

-- ---- from a residue and a curve to values (sections 4.3.6, 4.3.7 and 4.3.1)

-- the spectrum of a channel: all 0 where its floor is not used
abbrev pub spectrum_of : ConstantTables → List ℤ → Option (List ℕ) → List ℤ
spectrum_of tables residue None = replicate (length residue) (pos 0)
spectrum_of tables residue (Some curve) = shaped tables residue curve

-- the values of a channel under the window of its block
abbrev pub channel_values : ConstantTables → WindowForm → List ℤ → Option (List ℕ) → List ℤ
channel_values tables form residue curve =
    windowed tables form (transformed tables (spectrum_of tables residue curve))

-- the values of all channels, by their residues, which are not coupled any more, and their curves
unfoldable pub all_values : ConstantTables → WindowForm → List (List ℤ)
    → List (Option (List ℕ)) → List (List ℤ)
all_values tables form residues curves =
    map (λ c. channel_values tables form (channel residues c) (slice_index_or curves c None))
    (range_with_len 0 (length curves))

-- ---- the block

-- the spectra of residues as they were coupled, and the curves
unfoldable pub packet_parts : SetupFields → Mapping → ℕ → List Bool
    → List (List ℤ) × List (Option (List ℕ))
packet_parts setup mapping size left =
    let read = channel_curves setup mapping size left in
    let wanted = wanted_channels mapping.couplings (map is_some read.0) in
    let residues = channel_residues setup mapping size wanted read.1 in
    (without_steps mapping.couplings residues.0, read.0)

abbrev pub no_mode : Mode
no_mode = record { long = false; mapping = 0 }

abbrev pub no_mapping : Mapping
no_mapping = record { couplings = []; mux = []; submaps = [] }

-- of the mode of this number, whose window flags are these, from the bits behind its head
unfoldable pub block_by_mode : ConstantTables → BlockSizes → SetupFields → ℕ → Bool → Bool
    → List Bool → List (List ℤ)
block_by_mode tables sizes setup number previous next left =
    let mode = slice_index_or setup.modes number no_mode in
    let mapping = slice_index_or setup.mappings mode.mapping no_mapping in
    let size = size_of sizes.short sizes.long mode.long in
    let parts = packet_parts setup mapping (size / 2) left in
    all_values tables (window_form sizes.short mode.long previous next size) parts.0 parts.1

abbrev pub block_by_head : ConstantTables → BlockSizes → SetupFields
    → Result (PacketHead × List Bool) (Unit {0}) → List (List ℤ)
block_by_head tables sizes setup (Ok (heads.Block mode previous next, left)) =
    block_by_mode tables sizes setup mode previous next left
block_by_head tables sizes setup (Ok (heads.Skip, left)) = []
block_by_head tables sizes setup (Ok (heads.Bad, left)) = []
block_by_head tables sizes setup (Err e) = []

-- the block of a packet that decodes to one; its head stands behind its first bit
unfoldable pub packet_block : ConstantTables → BlockSizes → SetupFields → List ℕ → List (List ℤ)
packet_block tables sizes setup bytes =
    block_by_head tables sizes setup (block_head_at (block_flags setup) (drop 1 (bits_of bytes)))
