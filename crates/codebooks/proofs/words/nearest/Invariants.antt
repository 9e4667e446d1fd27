use Rattle.std.proofs.Common.{◌≡◌, ◌≤◌, ◌+◌, ℕ, get_or, None}
use Rattle.codebooks.proofs.words.nearest.Given as goal

abbrev pub invariant-loop-count : goal.invariant-loop-count
invariant-loop-count l = record {
  none : (y : ℕ) → l.count ≤ y → y ≤ l.len → get_or l.free y None ≡ None;
  within : l.count ≤ l.len + 1;
}

abbrev pub decreases-loop-count : goal.decreases-loop-count
decreases-loop-count l = l.count
