use Rattle.std.proofs.Common.{◌≡◌, ℕ, ◌≤◌, ◌^◌, length, slice_index}
use Rattle.half_sums.proofs.tests.cosine_table.Given as goal

abbrev pub invariant-loop-k : goal.invariant-loop-k
invariant-loop-k l = record {
  count : length l.values.items ≡ l.k;
  small : (i : ℕ) → slice_index l.values.items i ≤ 2 ^ 23;
}
