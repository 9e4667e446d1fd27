use Rattle.std.proofs.Common.{◌/◌, ◌∙◌, ap, sym, refl, arith}
use Rattle.std.proofs.Math.Nat.{mul-one}
use Rattle.model_synthesis.specs.Tables.{wave}
use Rattle.model_synthesis.proofs.Waves.{wave_first}
use Rattle.half_sums.specs.Places.{signed}
use Rattle.half_sums.proofs.places.bin_place.Goals as goal

pub returns : goal.returns
returns c =
    let near = c.nearest-near.result in
    let size = c.args.size in (
      omega arith,
      λ f.
          ap (wave size (λ u. f (u / 2))) (sym (mul-one c.args.step))
          ∙ (c.nearest-near.ensures.same (λ u. f (u / 2)) 1 refl
          ∙ ap (signed near.negative) (ap (wave size (λ u. f (u / 2))) (mul-one near.step) ∙ wave_first size (λ u. f (u / 2)) near.step c.nearest-near.ensures.within)),
    )
