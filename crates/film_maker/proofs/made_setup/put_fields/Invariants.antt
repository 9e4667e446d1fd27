use Rattle.std.proofs.Common.{◌≡◌, ◌++◌, take}
use Rattle.film_maker.specs.SetupTables.{table_bits}
use Rattle.film_maker.proofs.made_setup.put_fields.Given as goal

abbrev pub invariant-loop-number : goal.invariant-loop-number
invariant-loop-number l = l.out ≡ l.fn.out ++ table_bits (take l.number-index l.fields)
