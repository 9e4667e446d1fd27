use Rattle.std.proofs.Common.{◌≡◌, ◌∙◌, ap, slice_index, arith}
use Rattle.number_transform.specs.declared.field.TheConstants.{PRIME}
use Rattle.number_transform.specs.Folds.{join_front, join_back}
use Rattle.number_transform.proofs.Filling.{set_more, set_rest, set_small}
use Rattle.number_transform.proofs.inverse.join_halves.Goals as goal

pub join_pair-low-requires-clause-front : goal.join_pair-low-requires-clause-front
join_pair-low-requires-clause-front c = c.loop-k.invariant.small_front c.loop-k.k

pub join_pair-low-requires-clause-back : goal.join_pair-low-requires-clause-back
join_pair-low-requires-clause-back c = c.loop-k.invariant.small_back c.loop-k.k

pub loop-k-preserved : goal.loop-k-preserved
loop-k-preserved c =
    let i = c.loop-k.k in
    let a = slice_index c.args.front.now in
    let b = slice_index c.args.back.now in
    let z = c.args.inverse in
    let now = c.loop-k.invariant in
    let joins = c.join_pair-low in
    let low : slice_index c.loop-k.front i ≡ a i = now.front_rest i (omega arith) in
    let high : slice_index c.loop-k.back i ≡ b i = now.back_rest i (omega arith) in
    record {
      front = set_more (λ k. join_front (a k) (b k)) c.loop-k.front i joins.result.0 (omega arith)
          (joins.ensures.front ∙ (ap (λ x. join_front x (slice_index c.loop-k.back i)) low ∙ ap (λ x. join_front (a i) x) high))
          now.front;
      back = set_more (λ k. join_back z (a k) (b k)) c.loop-k.back i joins.result.1 (omega arith)
          (joins.ensures.back ∙ (ap (λ x. join_back z x (slice_index c.loop-k.back i)) low ∙ ap (λ x. join_back z (a i) x) high))
          now.back;
      small_front = set_small PRIME c.loop-k.front i joins.result.0 joins.ensures.small_front now.small_front;
      small_back = set_small PRIME c.loop-k.back i joins.result.1 joins.ensures.small_back now.small_back;
      front_rest = set_rest a c.loop-k.front i joins.result.0 now.front_rest;
      back_rest = set_rest b c.loop-k.back i joins.result.1 now.back_rest;
    }
