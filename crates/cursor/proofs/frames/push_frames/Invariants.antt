use Rattle.std.proofs.Common.{◌≡◌, ◌-◌, ◌++◌, map}
use Rattle.std.specs.List.{range_with_len}
use Rattle.model_line.specs.Blocks.{overlap_frame}
use Rattle.model_cursor.specs.FrameLists.{values_of}
use Rattle.cursor.proofs.frames.push_frames.Given as goal

abbrev pub invariant-loop-number : goal.invariant-loop-number
invariant-loop-number l = l.values.items ≡ l.fn.values.items ++ values_of (map (overlap_frame l.right l.left) (range_with_len l.fn.portion.from (l.number - l.fn.portion.from)))
