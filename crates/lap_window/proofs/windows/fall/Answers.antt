use Rattle.std.proofs.Common.{◌≡◌, ◌+◌, ◌-◌, ◌/◌, ◌∙◌, inl, inr, length, take, drop, pos, ap, sym, arith}
use Rattle.std.specs.Prelude.{replicate}
use Rattle.std.proofs.lemmas.Bool.{cases_lt}
use Rattle.std.proofs.lemmas.List.{length-take, length-drop}
use Rattle.model_synthesis.specs.Windows.{right_start, weighted}
use Rattle.model_synthesis.specs.Overlaps.{value_at}
use Rattle.model_synthesis.proofs.WindowParts.{has_quarters}
use Rattle.lap_window.proofs.Slopes.{slope_size}
use Rattle.lap_window.proofs.Sides.{kept, fallen_behind, silent_behind, fall_step, before_zeros, in_zeros, with_zeros_small}
use Rattle.lap_window.proofs.windows.fall.Goals as goal

pub slope-requires-clause-size : goal.slope-requires-clause-size
slope-requires-clause-size c = slope_size c.args.form.right c.requires.form.right

pub loop-place-preserved : goal.loop-place-preserved
loop-place-preserved c =
    let q = has_quarters c.args.form c.requires.form in
    let start = right_start c.args.form in
    let size : length c.loop-place.block ≡ c.args.form.size = omega arith in
    let read = ap (λ v. weighted c.scale-scale.result v c.slope.result) (kept (value_at c.loop-place.block (start + c.loop-place.place)) (c.loop-place.invariant.small (start + c.loop-place.place))) in
    fall_step c.args.constants.now c.args.form c.args.block.now c.requires.form c.loop-place.block c.loop-place.place c.scale-scale.result c.slope.result c.weighted.result c.loop-place.invariant c.loop-place-test.true size c.scale-scale.ensures.value c.slope.ensures.value (c.weighted.ensures.value ∙ read) c.weighted.ensures.small

pub returns-clause-slope : goal.returns-clause-slope
returns-clause-slope c i above within =
    let q = has_quarters c.args.form c.requires.form in
    let block = c.loop-place.block in
    let end = right_start c.args.form + c.args.form.right / 2 in
    let count = length c.loop-place.block - end in
    let part : length (take (length c.loop-place.block - end) (drop end c.loop-place.block)) ≡ count = simp (length-take, length-drop) (omega arith) in
    let zeros : c.fill.new.self ≡ replicate count (pos 0) = c.fill.ensures.after (λ y same. same) ∙ ap (λ n. replicate n (pos 0)) part in
    let whole : end + count ≡ length c.loop-place.block = omega arith in
    elim (cases_lt i end) [
      | inl low ↦
          before_zeros block c.fill.new.self end count zeros whole i low
          ∙ (c.loop-place.invariant.done i (omega arith)
          ∙ fallen_behind c.args.constants.now c.args.form c.args.block.now c.requires.form i above)
      | inr high ↦
          in_zeros block c.fill.new.self end count zeros whole i high
          ∙ sym (silent_behind c.args.constants.now c.args.form c.args.block.now c.requires.form i (omega arith))
    ]

pub returns-clause-small : goal.returns-clause-small
returns-clause-small c =
    let q = has_quarters c.args.form c.requires.form in
    let end = right_start c.args.form + c.args.form.right / 2 in
    let count = length c.loop-place.block - end in
    let part : length (take (length c.loop-place.block - end) (drop end c.loop-place.block)) ≡ count = simp (length-take, length-drop) (omega arith) in
    let zeros : c.fill.new.self ≡ replicate count (pos 0) = c.fill.ensures.after (λ y same. same) ∙ ap (λ n. replicate n (pos 0)) part in
    let whole : end + count ≡ length c.loop-place.block = omega arith in
    with_zeros_small c.loop-place.block c.fill.new.self end count zeros whole c.loop-place.invariant.small
