use Rattle.std.proofs.Common.{◌-◌, ◌*◌, ◌/◌, ◌∙◌, ap, sym, arith}
use Rattle.model_synthesis.specs.Tables.{wave}
use Rattle.half_sums.specs.Places.{sum_index, sum_step}
use Rattle.half_sums.proofs.PlaceLaws.{opposite_step, other_sign, kept_sign, one_near, sum_index_below, sum_index_above, sum_step_below, sum_step_above}
use Rattle.half_sums.proofs.places.sum_place.Goals as goal

pub returns-then-near-half : goal.returns-then-near-half
returns-then-near-half c =
    let near = c.nearest-near.result in
    let laws = c.nearest-near.ensures in
    let turn = c.requires.size in
    let size = c.args.size in
    record {
      within = omega arith;
      index = λ d below is_near.
          sym (sum_index_below size near.step c.if-near-half.true)
          ∙ ap (sum_index size) (one_near size c.args.step near.step d laws.within below laws.near is_near);
      same = λ f x odd.
          opposite_step size f near.step (sum_step size ((size - 1 - near.step) / 2)) x (omega arith) turn.some (sum_step_below size near.step turn.even laws.odd c.if-near-half.true) laws.odd odd
          ∙ other_sign near.negative _ _ (laws.same f x odd);
    }

pub returns-else-near-half : goal.returns-else-near-half
returns-else-near-half c =
    let near = c.nearest-near.result in
    let laws = c.nearest-near.ensures in
    let turn = c.requires.size in
    let size = c.args.size in
    record {
      within = omega arith;
      index = λ d below is_near.
          sym (sum_index_above size near.step c.if-near-half.false)
          ∙ ap (sum_index size) (one_near size c.args.step near.step d laws.within below laws.near is_near);
      same = λ f x odd.
          ap (λ p. wave size f (p * x)) (sum_step_above size near.step turn.even laws.odd c.if-near-half.false laws.within)
          ∙ kept_sign near.negative _ _ (laws.same f x odd);
    }
