use Rattle.std.proofs.Common.{◌≡◌, ◌+◌, ◌≤◌, ◌∙◌, ◌++◌, length, take, drop, pos, ap, subst, arith}
use Rattle.std.specs.Prelude.{replicate}
use Rattle.std.proofs.lemmas.List.{length-take-le, length-append, length-drop}
use Rattle.model_synthesis.specs.Windows.{left_start, weighted, windowed_at}
use Rattle.model_synthesis.specs.Overlaps.{value_at}
use Rattle.model_synthesis.proofs.WindowParts.{has_quarters}
use Rattle.lap_window.proofs.Slopes.{slope_size}
use Rattle.lap_window.proofs.Sides.{kept, zeros_first, silent_before, rise_step}
use Rattle.lap_window.proofs.Written.{IsWritten}
use Rattle.lap_window.proofs.windows.rise.Goals as goal

pub slope-requires-clause-size : goal.slope-requires-clause-size
slope-requires-clause-size c = slope_size c.args.form.left c.requires.form.left

pub loop-place-init : goal.loop-place-init
loop-place-init c =
    let q = has_quarters c.args.form c.requires.form in
    let start = left_start c.args.form in
    let within : left_start c.args.form ≤ length c.args.block.now = omega arith in
    let part : length (take start c.args.block.now) ≡ start = length-take-le start c.args.block.now within in
    let zeros : c.fill.new.self ≡ replicate start (pos 0) = c.fill.ensures.after (λ y same. same) ∙ ap (λ n. replicate n (pos 0)) part in
    subst (λ n. IsWritten (windowed_at c.args.constants.now c.args.form c.args.block.now) c.args.block.now n (c.fill.new.self ++ drop start c.args.block.now)) (let none : start ≡ start + 0 = omega arith in none)
    (zeros_first (windowed_at c.args.constants.now c.args.form c.args.block.now) c.args.block.now c.fill.new.self start zeros within (silent_before c.args.constants.now c.args.form c.args.block.now c.requires.form) c.requires.values)

pub loop-place-preserved : goal.loop-place-preserved
loop-place-preserved c =
    let q = has_quarters c.args.form c.requires.form in
    let start = left_start c.args.form in
    let within : left_start c.args.form ≤ length c.args.block.now = omega arith in
    let part : length (take start c.args.block.now) ≡ start = length-take-le start c.args.block.now within in
    let front = c.fill.ensures.len in
    let size : length c.loop-place.block ≡ c.args.form.size = c.loop-place.auto.block ∙ simp (length-append, length-drop) (omega arith) in
    let read = ap (λ v. weighted c.scale-scale.result v c.slope.result) (kept (value_at c.loop-place.block (start + c.loop-place.place)) (c.loop-place.invariant.small (start + c.loop-place.place))) in
    rise_step c.args.constants.now c.args.form c.args.block.now c.requires.form c.loop-place.block c.loop-place.place c.scale-scale.result c.slope.result c.weighted.result c.loop-place.invariant c.loop-place-test.true size c.scale-scale.ensures.value c.slope.ensures.value (c.weighted.ensures.value ∙ read) c.weighted.ensures.small

pub returns-clause-rest : goal.returns-clause-rest
returns-clause-rest c i behind =
    let q = has_quarters c.args.form c.requires.form in
    c.loop-place.invariant.rest i (omega arith)
