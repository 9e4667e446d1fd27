use Rattle.std.proofs.Common.{◌≡◌, take}
use Rattle.cursor.specs.Portions.{needs_of}
use Rattle.cursor.proofs.portions.needs_of.Given as goal

abbrev pub invariant-loop-portion : goal.invariant-loop-portion
invariant-loop-portion l = l.needs.items ≡ needs_of (take l.portion-index l.portions)
