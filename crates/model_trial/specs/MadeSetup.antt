-- The made setups (Vorbis I, section 4.2.4), for one channel or two: four books, one floor, one
-- residue, one mapping, and a mode of short and one of long blocks.
use Rattle.std.specs.Prelude.{ℕ, ◌*◌, ◌==◌, List, [], ◌∷◌, replicate, Option, Some, None, true, false, if◌then◌else◌}
use Rattle.model_setup.specs.declared.book.LookupKind.TheVariants.{Lattice, Tessellation}
use Rattle.model_setup.specs.declared.residue.ResidueKind.TheVariants.{Interleaved}
use Rattle.model_setup.specs.Codebook.{Codebook}
use Rattle.model_setup.specs.FloorSetup.{FloorSetup}
use Rattle.model_setup.specs.ResidueSetup.{ResidueSetup}
use Rattle.model_setup.specs.SetupPacket.{Mapping, Mode, SetupFields}

-- ---- books

-- the words of floor values: eight entries of three bits
abbrev pub floor_book : Codebook
floor_book = record { dimensions = 1; lengths = replicate 8 (Some 3); lookup = None }

-- the words that name the classes of two partitions: sixteen entries of four bits
abbrev pub class_book : Codebook
class_book = record { dimensions = 2; lengths = replicate 16 (Some 4); lookup = None }

-- pairs of values from a lattice of four: -3/4, -1/4, 1/4 and 3/4 as packed numbers have it
abbrev pub pair_book : Codebook
pair_book = record {
  dimensions = 2;
  lengths = replicate 16 (Some 4);
  lookup = Some (record {
    kind = Lattice;
    minimum = 0xe2600003;
    delta = 0x62800001;
    sequence = false;
    multiplicands = 0 ∷ 1 ∷ 2 ∷ 3 ∷ [];
  });
}

-- finer single values, the more frequent ones in fewer bits
abbrev pub fine_book : Codebook
fine_book = record {
  dimensions = 1;
  lengths = Some 1 ∷ Some 2 ∷ Some 3 ∷ Some 3 ∷ [];
  lookup = Some (record {
    kind = Tessellation;
    minimum = 0xe2400001;
    delta = 0x62400001;
    sequence = false;
    multiplicands = 0 ∷ 1 ∷ 2 ∷ 2 ∷ [];
  });
}

-- ---- the floor and the residue

-- two partitions of three points each, whose values stand in the first book; the range has 7 bits
abbrev pub made_floor : FloorSetup
made_floor = record {
  partitions = 0 ∷ 0 ∷ [];
  classes =
      record { dimensions = 3; subclass_bits = 0; master = None; books = Some 0 ∷ [] } ∷ [];
  multiplier = 2;
  x_values = 0 ∷ 128 ∷ 8 ∷ 16 ∷ 32 ∷ 48 ∷ 64 ∷ 96 ∷ [];
}

-- the books of the first passes, and none in the others
abbrev pub passes : List ℕ → List (Option ℕ)
passes [] = replicate 8 None
passes (a ∷ []) = Some a ∷ replicate 7 None
passes (a ∷ b ∷ []) = Some a ∷ Some b ∷ replicate 6 None
passes (a ∷ b ∷ c ∷ _) = Some a ∷ Some b ∷ Some c ∷ replicate 5 None

-- four classes, from silence to three passes
abbrev pub made_residue : ℕ → ResidueSetup
made_residue channels = record {
  kind = Interleaved;
  begin = 0;
  end = 128 * channels;
  partition_size = 8;
  class_book = 1;
  cascades =
      passes [] ∷ passes (2 ∷ []) ∷ passes (2 ∷ 3 ∷ []) ∷ passes (2 ∷ 3 ∷ 3 ∷ []) ∷ [];
}

-- ---- the mapping and the modes

-- one submap; two channels are coupled, the first as the magnitude
abbrev pub made_mapping : ℕ → Mapping
made_mapping channels = record {
  couplings = if channels == 2 then record { magnitude = 0; angle = 1 } ∷ [] else [];
  mux = replicate channels 0;
  submaps = record { floor = 0; residue = 0 } ∷ [];
}

-- mode 0 has short blocks, mode 1 long ones
abbrev pub made_modes : List Mode
made_modes = record { long = false; mapping = 0 } ∷ record { long = true; mapping = 0 } ∷ []

-- the setup of a link of so many channels
abbrev pub made_setup : ℕ → SetupFields
made_setup channels = record {
  books = floor_book ∷ class_book ∷ pair_book ∷ fine_book ∷ [];
  floors = made_floor ∷ [];
  residues = made_residue channels ∷ [];
  mappings = made_mapping channels ∷ [];
  modes = made_modes;
}
