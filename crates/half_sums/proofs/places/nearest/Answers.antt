use Rattle.std.proofs.Common.{◌≡◌, ◌<◌, ◌*◌, ◌%◌, sym, inl, inr, arith}
use Rattle.std.proofs.Math.Nat.{mod-eq_of_lt}
use Rattle.half_sums.proofs.PlaceLaws.{opposite_step, half_turn_step, whole_turn_step}
use Rattle.half_sums.proofs.places.nearest.Goals as goal

pub returns-then-step-size-clause-near : goal.returns-then-step-size-clause-near
returns-then-step-size-clause-near c =
    let short : c.args.step < 2 * c.args.size = omega arith in
    inl (sym (mod-eq_of_lt short))

pub returns-then-step-size-2-clause-near : goal.returns-then-step-size-2-clause-near
returns-then-step-size-2-clause-near c =
    let short : c.args.step < 2 * c.args.size = omega arith in
    let same : c.args.step % (2 * c.args.size) ≡ c.args.step = mod-eq_of_lt short in
    inr (omega arith)

pub returns-then-step-size-2-clause-same : goal.returns-then-step-size-2-clause-same
returns-then-step-size-2-clause-same c f x odd =
    opposite_step c.args.size f _ c.args.step x (omega arith) c.requires.size.some (omega arith) (omega arith) odd

pub returns-then-step-size-3-clause-same : goal.returns-then-step-size-3-clause-same
returns-then-step-size-3-clause-same c f x odd =
    half_turn_step c.args.size f _ c.args.step x c.requires.size.some (omega arith) odd

pub returns-else-step-size-3-clause-same : goal.returns-else-step-size-3-clause-same
returns-else-step-size-3-clause-same c f x odd =
    whole_turn_step c.args.size f _ c.args.step x (omega arith) c.requires.size.some (omega arith) c.requires.size.odd odd
