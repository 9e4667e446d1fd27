-- The fields of floors and residues behind their types (Vorbis I, section 4.2.4).
use Rattle.std.specs.Prelude.{List, ◌++◌}
use Rattle.model_bits.specs.Writing.{WrittenField, in_bits}
use Rattle.model_setup.specs.FloorSetup.{FloorSetup}
use Rattle.model_setup.specs.ResidueSetup.{ResidueSetup}
use Rattle.model_writing.specs.SetupWriting.{floor_fields, residue_type, residue_fields}

-- a floor, behind its type, which is 1
abbrev pub numbered_floor_fields : FloorSetup → List WrittenField
numbered_floor_fields floor = in_bits 16 1 ++ floor_fields floor

-- a residue, behind its type
abbrev pub numbered_residue_fields : ResidueSetup → List WrittenField
numbered_residue_fields residue =
    in_bits 16 (residue_type residue.kind) ++ residue_fields residue
