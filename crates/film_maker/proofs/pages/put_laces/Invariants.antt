use Rattle.std.proofs.Common.{◌≡◌, ◌++◌, replicate}
use Rattle.film_maker.proofs.pages.put_laces.Given as goal

abbrev pub invariant-loop : goal.invariant-loop
invariant-loop l = l.laces.items ≡ l.fn.laces.items ++ replicate l.counter 255
