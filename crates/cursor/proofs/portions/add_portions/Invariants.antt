use Rattle.std.proofs.Common.{◌≡◌, ◌++◌, drop}
use Rattle.cursor.specs.Portions.{portions_on}
use Rattle.cursor.proofs.portions.add_portions.Given as goal

abbrev pub invariant-loop-item : goal.invariant-loop-item
invariant-loop-item l = l.portions.items ++ portions_on l.link l.left (drop l.item-index l.items) ≡ l.fn.portions.items ++ portions_on l.link l.count l.items
