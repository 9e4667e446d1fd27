use Rattle.std.proofs.Common.{◌≡◌, ℕ, ◌+◌, ◌*◌, ◌<◌, length}
use Rattle.model_synthesis.specs.Overlaps.{value_at, overlap_at, IsFrameValue}
use Rattle.lap_window.proofs.frames.overlap.Given as goal

abbrev pub invariant-loop-place : goal.invariant-loop-place
invariant-loop-place l = record {
  done : (k : ℕ)
      → k < l.place
      → value_at l.out k ≡ overlap_at (2 * length l.right) (2 * length l.left) l.right l.left (l.from + k);
  small : (k : ℕ) → k < l.place → IsFrameValue (value_at l.out k);
}
