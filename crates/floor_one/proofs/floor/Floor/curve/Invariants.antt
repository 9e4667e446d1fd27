use Rattle.std.proofs.Common.{◌≡◌, ◌∷◌, ◌<◌, ◌+◌, ℕ, length, get_or}
use Rattle.model_setup.specs.FloorCurve.{curve_at}
use Rattle.floor_one.proofs.Walked.{IsDrawn, no_place}
use Rattle.floor_one.proofs.floor.Floor.curve.Given as goal

abbrev pub invariant-loop-position : goal.invariant-loop-position
invariant-loop-position l = IsDrawn l.self l.finals-2 (no_place ∷ l.position-items) (l.position-index + 1) l.corner.x l.corner.y l.out

abbrev pub invariant-loop-x : goal.invariant-loop-x
invariant-loop-x l = (k : ℕ) → k < l.x → k < length l.out → get_or l.out k 0 ≡ curve_at l.self l.finals k
