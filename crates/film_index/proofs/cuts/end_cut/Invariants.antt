use Rattle.std.proofs.Common.{◌≡◌, ◌*◌, ◌+◌, ◌≤◌, None, length, map}
use Rattle.std.specs.Prelude.{IfSome}
use Rattle.model_line.specs.Trim.{end_cut, marks, no_mark}
use Rattle.model_line.specs.Origins.{frame_numbers, entry_of}
use Rattle.film_index.specs.Bounds.{most_overlap, FitsSize}
use Rattle.film_index.proofs.Marks.{marks_behind}
use Rattle.film_index.proofs.cuts.end_cut.Given as goal

abbrev pub invariant-loop-row : goal.invariant-loop-row
invariant-loop-row l = record {
  can : (goal.iterator-loop-row).can_next l.row-iterator;
  finite : (goal.iterator-loop-row).is_finite l.row-iterator;
  value : end_cut l.before (marks_behind l.sizes.short l.sizes.long l.walk.frames l.walk.previous l.row-iterator) ≡ end_cut no_mark (marks frame_numbers 0 None (map (entry_of l.sizes.short l.sizes.long) l.rows));
  previous : IfSome l.walk.previous FitsSize;
  frames : l.walk.frames + most_overlap * length l.row-iterator ≤ most_overlap * length l.rows;
}
