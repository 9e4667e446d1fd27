use Rattle.std.proofs.Common.{ℕ}
use Rattle.std.proofs.lemmas.List.Sorted.{IsNonDecreasingBy-from_sort}
use Rattle.granule_seek.proofs.tests.place_in.Goals as goal

pub last_at_most-requires : goal.last_at_most-requires
last_at_most-requires g c =
    rw (c.new.ensures, c.deref.ensures.value)
    (IsNonDecreasingBy-from_sort (λ (x : ℕ). x) _ c.sort_unstable.ensures.sorted)
