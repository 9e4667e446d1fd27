use Rattle.std.proofs.Common.{◌≡◌, ◌++◌, ◌<◌, ℕ, ℤ, pos, List, take, get_or, length, append-nil, append_assoc, sym, ap, ◌∙◌, arith, rules}
use Rattle.std.specs.List.{flat_map}
use Rattle.std.proofs.lemmas.List.{take_more}
use Rattle.std.proofs.lemmas.Grind.{common_steps}
use Rattle.hex.specs.Hex.{encode_with, encode_lower}
use Rattle.model_line.specs.FrameBytes.{sample_bytes}
use Rattle.player_script.proofs.Bodies.{on_err}
use Rattle.player_script.proofs.SampleSteps.{digits_push}
use Rattle.player_script.proofs.samples.write_samples.Goals as goal

pub loop-value-init : goal.loop-value-init
unfolding encode_with
loop-value-init c = c.try_reserve.ensures.items ∙ sym (append-nil c.args.out.now.items)

pub returns-in_err-extend_from_slice-clause-err : goal.returns-in_err-extend_from_slice-clause-err
returns-in_err-extend_from_slice-clause-err c =
    on_err c.from_residual-in_err-extend_from_slice.result
    (encode_lower (flat_map sample_bytes (take c.loop-value.value-index c.args.values.now)), c.in_err-extend_from_slice.ensures.items ∙ c.loop-value.invariant)

pub loop-value-preserved : goal.loop-value-preserved
loop-value-preserved c =
    let values = c.args.values.now in
    let i = c.loop-value.value-index in
    let base = c.args.out.now.items in
    let within : i < length values = omega arith in
    let more = take_more values i (pos 0) within in
    let written = c.in_ok-extend_from_slice.ensures.items in
    let digits : c.sample_digits.result ≡ encode_lower (sample_bytes (get_or values i (pos 0))) = first_of (search rules, cc, grind (arith, common_steps)) in
    written ∙ ap (λ (o : List ℕ). o ++ c.sample_digits.result) c.loop-value.invariant
    ∙ append_assoc base (encode_lower (flat_map sample_bytes (take i values))) c.sample_digits.result
    ∙ ap (λ (ds : List ℕ). base ++ ds) (
    ap (λ (ds : List ℕ). encode_lower (flat_map sample_bytes (take i values)) ++ ds) digits
    ∙ sym (digits_push (take i values) (get_or values i (pos 0)))
    ∙ ap (λ (vs : List ℤ). encode_lower (flat_map sample_bytes vs)) (sym more)
    )
