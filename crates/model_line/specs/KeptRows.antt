-- The rows of a link as they are kept: the marks apart, in order, since few rows have one.
use Rattle.std.specs.Prelude.{Bool, true, false, List, [], ◌∷◌, Option, Some, None}
use Rattle.model_ogg.specs.declared.page.Mark.{Mark}
use Rattle.model_line.specs.declared.row.Row.{Row}
use Rattle.model_line.specs.declared.rows.KeptRow.{KeptRow}

-- the mark of a row that has one or none, where these are the marks of the rows from it on
abbrev pub next_mark : Bool → List Mark → Option Mark
next_mark false marks = None
next_mark true [] = None
next_mark true (mark ∷ marks) = Some mark

-- the marks of the rows behind it
abbrev pub marks_behind : Bool → List Mark → List Mark
marks_behind false marks = marks
marks_behind true [] = []
marks_behind true (mark ∷ marks) = marks

-- the rows of which this is kept: one that is marked takes the next mark
abbrev pub kept_rows : List KeptRow → List Mark → List Row
kept_rows [] marks = []
kept_rows (first ∷ behind) marks =
    record { kind = first.kind; mark = next_mark first.is_marked marks }
    ∷ kept_rows behind (marks_behind first.is_marked marks)
