use Rattle.std.proofs.Common.{◌≡◌, ℕ, ◌<◌, ◌≤◌, slice_index}
use Rattle.number_transform.specs.Folds.{AreResidues, fold_front, fold_back}
use Rattle.number_transform.proofs.forward.fold_halves.Given as goal

abbrev pub invariant-loop-k : goal.invariant-loop-k
invariant-loop-k l = record {
  front : (i : ℕ) → i < l.k → slice_index l.front i ≡ fold_front l.root (slice_index l.fn.front i) (slice_index l.fn.back i);
  back : (i : ℕ) → i < l.k → slice_index l.back i ≡ fold_back l.root (slice_index l.fn.front i) (slice_index l.fn.back i);
  small_front : AreResidues l.front;
  small_back : AreResidues l.back;
  front_rest : (i : ℕ) → l.k ≤ i → slice_index l.front i ≡ slice_index l.fn.front i;
  back_rest : (i : ℕ) → l.k ≤ i → slice_index l.back i ≡ slice_index l.fn.back i;
}
