use Rattle.std.proofs.Common.{◌≡◌, ◌∙◌, ap, slice_index, arith}
use Rattle.number_transform.specs.declared.field.TheConstants.{PRIME}
use Rattle.number_transform.specs.Folds.{fold_front, fold_back}
use Rattle.number_transform.proofs.Filling.{set_more, set_rest, set_small}
use Rattle.number_transform.proofs.forward.fold_halves.Goals as goal

pub fold_pair-low-requires-clause-front : goal.fold_pair-low-requires-clause-front
fold_pair-low-requires-clause-front c = c.loop-k.invariant.small_front c.loop-k.k

pub loop-k-preserved : goal.loop-k-preserved
loop-k-preserved c =
    let i = c.loop-k.k in
    let a = slice_index c.args.front.now in
    let b = slice_index c.args.back.now in
    let w = c.args.root in
    let now = c.loop-k.invariant in
    let folds = c.fold_pair-low in
    let low : slice_index c.loop-k.front i ≡ a i = now.front_rest i (omega arith) in
    let high : slice_index c.loop-k.back i ≡ b i = now.back_rest i (omega arith) in
    record {
      front = set_more (λ k. fold_front w (a k) (b k)) c.loop-k.front i folds.result.0 (omega arith)
          (folds.ensures.front ∙ (ap (λ x. fold_front w x (slice_index c.loop-k.back i)) low ∙ ap (λ x. fold_front w (a i) x) high))
          now.front;
      back = set_more (λ k. fold_back w (a k) (b k)) c.loop-k.back i folds.result.1 (omega arith)
          (folds.ensures.back ∙ (ap (λ x. fold_back w x (slice_index c.loop-k.back i)) low ∙ ap (λ x. fold_back w (a i) x) high))
          now.back;
      small_front = set_small PRIME c.loop-k.front i folds.result.0 folds.ensures.small_front now.small_front;
      small_back = set_small PRIME c.loop-k.back i folds.result.1 folds.ensures.small_back now.small_back;
      front_rest = set_rest a c.loop-k.front i folds.result.0 now.front_rest;
      back_rest = set_rest b c.loop-k.back i folds.result.1 now.back_rest;
    }
