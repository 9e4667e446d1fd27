-- What is read of the packet of a block behind its head: the curves of its channels, and their
-- residues (Vorbis I, sections 4.3.2 to 4.3.4).
use Rattle.std.specs.Prelude.{ℕ, Bool, false, true, ◌||◌, ◌==◌, if◌then◌else◌, ℤ, List, [], ◌∷◌, length, map, fold, replicate, Option, None, option_map, is_some, slice_index, slice_index_or, slice_set}
use Rattle.std.specs.List.{range_with_len, filter, zip}
use Rattle.model_setup.specs.declared.floor.Final.{Final}
use Rattle.model_setup.specs.declared.residue.ResidueKind.TheVariants.{Spread}
use Rattle.model_setup.specs.Codebook.{Codebook}
use Rattle.model_setup.specs.FloorSetup.{FloorSetup}
use Rattle.model_setup.specs.FloorCurve.{floor_finals, curve_at}
use Rattle.model_setup.specs.ResidueSetup.{ResidueSetup}
use Rattle.model_setup.specs.ResidueDecoding.{residue_vectors}
use Rattle.model_setup.specs.declared.setup.Coupling.{Coupling}
use Rattle.model_setup.specs.SetupPacket.{Submap, Mapping, SetupFields}

-- ---- the floor and the residue of a channel, by its submap

abbrev pub no_submap : Submap
no_submap = record { floor = 0; residue = 0 }

abbrev pub submap_of : Mapping → ℕ → Submap
submap_of mapping number = slice_index_or mapping.submaps number no_submap

abbrev pub no_floor : FloorSetup
no_floor = record { partitions = []; classes = []; multiplier = 1; x_values = [] }

abbrev pub floor_of : SetupFields → Mapping → ℕ → FloorSetup
floor_of setup mapping number =
    slice_index_or setup.floors (submap_of mapping number).floor no_floor

abbrev pub no_residue : ResidueSetup
no_residue = record {
  kind = Spread;
  begin = 0;
  end = 0;
  partition_size = 1;
  class_book = 0;
  cascades = [];
}

abbrev pub residue_of : SetupFields → Mapping → ℕ → ResidueSetup
residue_of setup mapping number =
    slice_index_or setup.residues (submap_of mapping number).residue no_residue

-- ---- floors (section 4.3.2)

-- the curve of a floor over so many bins
abbrev pub curve_of : FloorSetup → ℕ → List Final → List ℕ
curve_of floor size finals = map (curve_at floor finals) (range_with_len 0 size)

-- the curve of a floor, none where the packet does not use it, and the bits behind its values
unfoldable pub read_curve : List Codebook → ℕ → FloorSetup → List Bool
    → Option (List ℕ) × List Bool
read_curve books size floor left =
    let read = floor_finals books floor left in (option_map (curve_of floor size) read.0, read.1)

-- the curves of floors that follow each other
unfoldable pub read_curves : List Codebook → ℕ → List FloorSetup → List Bool
    → List (Option (List ℕ)) × List Bool
read_curves books size [] left = ([], left)
read_curves books size (floor ∷ floors) left =
    let first = read_curve books size floor left in
    let others = read_curves books size floors first.1 in
    (first.0 ∷ others.0, others.1)

-- the curves of all channels, in their order
abbrev pub channel_curves : SetupFields → Mapping → ℕ → List Bool
    → List (Option (List ℕ)) × List Bool
channel_curves setup mapping size left =
    read_curves setup.books size (map (floor_of setup mapping) mapping.mux) left

-- ---- wanted channels (section 4.3.3)

abbrev pub is_flagged : List Bool → ℕ → Bool
is_flagged flags channel = slice_index_or flags channel false

-- where one of the two channels of a coupling step uses its floor, both are wanted
abbrev pub with_step : List Bool → List Bool → Coupling → List Bool
with_step used wanted step =
    if is_flagged used step.magnitude || is_flagged used step.angle
    then slice_set (slice_set wanted step.magnitude true) step.angle true
    else wanted

-- the channels of which the residue is wanted: those that use their floors, and those of all
-- coupling steps with one of them
unfoldable pub wanted_channels : List Coupling → List Bool → List Bool
wanted_channels steps used = fold (with_step used) used steps

-- ---- residues (section 4.3.4)

-- the channels of a submap, in their order
abbrev pub channels_of : List ℕ → ℕ → List ℕ
channels_of mux number =
    filter (λ channel. slice_index mux channel == number) (range_with_len 0 (length mux))

abbrev pub put_at : List (List ℤ) → ℕ × List ℤ → List (List ℤ)
put_at all put = slice_set all put.0 put.1

-- vectors in place of those of some channels
unfoldable pub replaced : List (List ℤ) → List ℕ → List (List ℤ) → List (List ℤ)
replaced all channels vectors = fold put_at all (zip channels vectors)

-- the residues of all channels after those of a submap, and the bits behind them
unfoldable pub with_submap : SetupFields → Mapping → ℕ → List Bool
    → List (List ℤ) × List Bool → ℕ → List (List ℤ) × List Bool
with_submap setup mapping size wanted before number =
    let channels = channels_of mapping.mux number in
    let read = residue_vectors setup.books (residue_of setup mapping number) size
    (map (is_flagged wanted) channels) before.1 in
    (replaced before.0 channels read.0, read.1)

-- the residues of all channels, read submap after submap
unfoldable pub channel_residues : SetupFields → Mapping → ℕ → List Bool → List Bool
    → List (List ℤ) × List Bool
channel_residues setup mapping size wanted left =
    fold (with_submap setup mapping size wanted) (replicate (length mapping.mux) [], left)
    (range_with_len 0 (length mapping.submaps))
