use Rattle.std.proofs.Common.{◌≡◌, ℤ, pos, to_z, of_z, w64, get_or, ap, ◌∙◌, rules, FitsSigned, refl}
use Rattle.std.proofs.lemmas.Int.{to_z-of_z}
use Rattle.model_cursor.specs.Splices.{mixed}
use Rattle.cursor.proofs.MixSteps.{channel_mixed, channels_end}
use Rattle.cursor.proofs.mix.push_mixed.Goals as goal

pub loop-channel-preserved : goal.loop-channel-preserved
loop-channel-preserved c =
    let i = c.loop-channel.channel in
    let before : c.unwrap_or-before.result ≡ get_or c.args.old.now i (pos 0) = search rules in
    let after : ℤ = get_or c.args.new.now i (pos 0) in
    let fits_mixed : FitsSigned w64 c.mixed.result = search rules in
    let fits_before : FitsSigned w64 c.unwrap_or-before.result = search rules in
    let fits_after : FitsSigned w64 after = search rules in
    let value : to_z w64 (of_z w64 c.mixed.result) ≡ mixed c.args.constants.now c.args.weight (get_or c.args.old.now i (pos 0)) after =
    to_z-of_z w64 c.mixed.result fits_mixed ∙ c.mixed.ensures
    ∙ ap (λ (z : ℤ). mixed c.args.constants.now c.args.weight z (to_z w64 (of_z w64 after))) (to_z-of_z w64 c.unwrap_or-before.result fits_before ∙ before)
    ∙ ap (λ (z : ℤ). mixed c.args.constants.now c.args.weight (get_or c.args.old.now i (pos 0)) z) (to_z-of_z w64 after fits_after) in
    channel_mixed _ _ _ _ _ (pos 0) after _ _ _ _ c.loop-channel-test.true refl value c.in_ok-push.ensures.items c.loop-channel.invariant

pub returns : goal.returns
returns c = channels_end _ _ _ _ _ _ _ c.loop-channel-test.false c.loop-channel.invariant
