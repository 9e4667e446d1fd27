use Rattle.std.proofs.Common.{◌≡◌, ℕ, ◌-◌, ◌<◌, ◌≤◌, ◌-ℤ◌, unsigned_abs, get_or}
use Rattle.std.specs.Prelude.{int_lt}
use Rattle.model_setup.specs.FloorCurve.{render_point, decibel_number}
use Rattle.floor_one.proofs.Straight.{IsOn}
use Rattle.floor_one.proofs.curve.draw.Given as goal

abbrev pub invariant-loop-x : goal.invariant-loop-x
invariant-loop-x l = record {
  on : IsOn (int_lt l.fn.high.y l.fn.low.y) l.fn.low.y (unsigned_abs (l.fn.high.y -ℤ l.fn.low.y)) (l.fn.high.x - l.fn.low.x) (l.x - l.fn.low.x) l.pen.height l.pen.error;
  inside : (k : ℕ) → l.fn.low.x ≤ k → k < l.x → get_or l.out k 0 ≡ decibel_number (render_point l.fn.low.x l.fn.low.y l.fn.high.x l.fn.high.y k);
  before : (k : ℕ) → k < l.fn.low.x → get_or l.out k 0 ≡ get_or l.fn.out k 0;
}
