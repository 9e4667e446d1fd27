use Rattle.std.proofs.Common.{◌≡◌, map, take}
use Rattle.codebooks.specs.Units.{unit_of}
use Rattle.codebooks.proofs.lookup.units_of.Given as goal

abbrev pub invariant-loop-multiplicand : goal.invariant-loop-multiplicand
invariant-loop-multiplicand l = l.units.items ≡ map (unit_of l.minimum l.delta) (take l.multiplicand-index l.multiplicands)
