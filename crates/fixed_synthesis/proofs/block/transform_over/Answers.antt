use Rattle.std.proofs.Common.{◌≡◌, ◌*◌, ◌∙◌, ap, refl, sym, subst, length, List, ℕ, ℤ, arith}
use Rattle.std.specs.List.{All}
use Rattle.model_setup.specs.HeaderPackets.{IsBlockSize}
use Rattle.model_synthesis.specs.Transform.{IsBlockValue}
use Rattle.half_sums.specs.HalfSums.{half_sums}
use Rattle.fixed_synthesis.specs.Unfolding.{unfolded}
use Rattle.fixed_synthesis.proofs.AllSums.{unfolded_transforms, unfolded_small}
use Rattle.fixed_synthesis.proofs.block.transform_over.Goals as goal

pub unfold_sums-requires-clause-size : goal.unfold_sums-requires-clause-size
unfold_sums-requires-clause-size c = subst IsBlockSize (sym c.requires.out) c.requires.size

pub returns-clause-values : goal.returns-clause-values
returns-clause-values c =
    c.unfold_sums.ensures
    ∙ (ap (λ (sums : List ℤ). unfolded sums c.scale.result) (c.half_sums.ensures.values c.args.constants.now refl)
    ∙ (ap (unfolded (half_sums c.args.constants.now (2 * length c.args.spectrum.now) c.args.spectrum.now)) c.scale.ensures.value
    ∙ unfolded_transforms c.args.constants.now c.args.spectrum.now c.requires.size))

pub returns-clause-small : goal.returns-clause-small
returns-clause-small c =
    subst (All IsBlockValue) (sym (c.unfold_sums.ensures ∙ ap (unfolded c.half_sums.new.sums) c.scale.ensures.set))
    (unfolded_small c.half_sums.new.sums c.half_sums.ensures.small)
