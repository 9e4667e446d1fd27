use Rattle.std.proofs.Common.{◌≡◌, ℕ, ◌<◌, ◌≤◌, ◌/◌, ◌^◌, length, slice_index_or, pos, unsigned_abs}
use Rattle.model_setup.specs.Vectors.{value_at}
use Rattle.codebooks.proofs.Fills.{carried_to}
use Rattle.codebooks.proofs.lookup.VectorTable.fill_by_digits.Given as goal

abbrev pub invariant-loop-i : goal.invariant-loop-i
invariant-loop-i l = record {
  done : (k : ℕ) → k < l.i → slice_index_or l.out k (pos 0) ≡ value_at (length l.fn.out) l.self l.entry k;
  last : l.last ≡ carried_to (length l.fn.out) l.self l.entry l.i;
  small : unsigned_abs l.last ≤ 2 ^ 32;
  rest : l.rest ≡ l.entry / length l.self.multiplicands ^ l.i;
}
