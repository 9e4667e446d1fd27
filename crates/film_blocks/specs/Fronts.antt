-- The fronts of packets: their first bytes, which their heads go by (Vorbis I, section 4.3.1).
use Rattle.std.specs.Prelude.{ℕ, Bool, List, Option, Some, None}
use Rattle.model_setup.specs.AudioHead.{head_of}
use Rattle.model_line.specs.declared.row.RowKind.{RowKind}
use Rattle.model_line.specs.declared.row.RowKind.TheVariants.{Lost}
use Rattle.model_line.specs.PacketRows.{kind_by_head}

-- what an entry is for the line by its front, where the modes have these block flags
abbrev pub kind_by_front : List Bool → Option (List ℕ) → RowKind
kind_by_front long_flags None = Lost
kind_by_front long_flags (Some front) = kind_by_head long_flags (head_of long_flags front)
