use Rattle.std.proofs.Common.{◌≡◌, drop, [], ◌∷◌}
use Rattle.number_transform.specs.Roots.{grown}
use Rattle.number_transform.proofs.roots.grow_all.Given as goal

abbrev pub invariant-loop-stem : goal.invariant-loop-stem
invariant-loop-stem l = grown (drop l.stem-index l.stems) l.table.items ≡ grown l.fn.stems (1 ∷ [])
