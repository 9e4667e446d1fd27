use Rattle.std.proofs.Common.{◌+◌, ◌∙◌, ap, arith}
use Rattle.std.proofs.lemmas.Int.{ints}
use Rattle.lap_window.proofs.Written.{values_more}
use Rattle.lap_window.proofs.tests.rising_values.Goals as goal

pub loop-place-preserved : goal.loop-place-preserved
loop-place-preserved c = record {
  count = c.in_ok-push.ensures.len ∙ ap (λ n. n + 1) c.loop-place.invariant.count;
  small = rw c.in_ok-push.ensures.items (values_more _ _ c.loop-place.invariant.small (let h = c.from-in-loop-place.ensures in omega (arith, ints)));
}
