use Rattle.std.proofs.Common.{length}
use Rattle.player_script.specs.Steps.{worded}
use Rattle.player_script.proofs.ScriptSteps.{IsRead}
use Rattle.player_script.proofs.script.read_lines.Given as goal

abbrev pub invariant-loop-line : goal.invariant-loop-line
invariant-loop-line l =
    IsRead (worded l.text) (length l.yielded) l.number l.reading.lanes.items l.reading.frames
