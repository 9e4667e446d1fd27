use Rattle.std.proofs.Common.{◌≡◌, ◌≤◌, ◌*◌, ◌/◌, ◌^◌, ◌∙◌, ap, sym, subst, refl, rules, to_z, of_z, w64, unsigned_abs}
use Rattle.std.proofs.lemmas.Int.{to_z-of_z}
use Rattle.std.proofs.Math.Nat.{mul-one}
use Rattle.model_synthesis.specs.declared.constants.TheConstants.{SCALE}
use Rattle.model_synthesis.specs.Tables.{wave, first_quarter}
use Rattle.model_synthesis.proofs.Waves.{wave_first, wave_small}
use Rattle.half_sums.specs.Places.{signed}
use Rattle.half_sums.proofs.places.cosine.Goals as goal

pub returns-clause-value : goal.returns-clause-value
returns-clause-value c =
    let near = c.nearest-near.result in
    let size = c.args.size in
    let table = first_quarter c.args.cosines.now size in
    let here =
    ap (wave size table) (sym (mul-one c.args.step))
    ∙ (c.nearest-near.ensures.same table 1 refl
    ∙ ap (signed near.negative) (ap (wave size table) (mul-one near.step) ∙ wave_first size table near.step c.nearest-near.ensures.within)) in
    let read : to_z w64 (of_z w64 c.from-value.result) ≡ c.from-value.result = to_z-of_z w64 c.from-value.result (search rules) in
    let passed : to_z w64 (of_z w64 c.with_sign.result) ≡ c.with_sign.result = to_z-of_z w64 c.with_sign.result (search rules) in
    passed ∙ (c.with_sign.ensures ∙ (ap (signed near.negative) (read ∙ c.from-value.ensures) ∙ sym here))

pub returns-clause-small : goal.returns-clause-small
returns-clause-small c =
    let size = c.args.size in
    subst (λ z. unsigned_abs z ≤ 2 ^ SCALE) (sym (returns-clause-value c))
    (wave_small size (first_quarter c.args.cosines.now size) (2 ^ SCALE) (λ u. c.requires.small (u * (8192 / size))) c.args.step)
