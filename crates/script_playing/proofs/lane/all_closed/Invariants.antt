use Rattle.std.proofs.Common.{◌≡◌, None, replicate}
use Rattle.script_playing.proofs.lane.all_closed.Given as goal

abbrev pub invariant-loop : goal.invariant-loop
invariant-loop l = l.cursors.items ≡ replicate l.counter None
