use Rattle.std.proofs.Common.{◌≡◌, ◌^◌, ◌∙◌, length, ap, arith}
use Rattle.std.proofs.lemmas.List.{take_at}
use Rattle.std.proofs.lemmas.List.FromFn.{length-map-range_with_len}
use Rattle.number_transform.specs.Field.{residue_of}
use Rattle.number_transform.specs.Factors.{factor_of}
use Rattle.half_sums.specs.declared.block.TheConstants.{SUM_STEP}
use Rattle.half_sums.specs.Blocks.{cosine_at, cosine_list, size_of}
use Rattle.half_sums.proofs.making.cosine_factor.Goals as goal

pub make_factor-requires-clause-size : goal.make_factor-requires-clause-size
make_factor-requires-clause-size c =
    ap length (c.deref_mut.ensures.value ∙ c.in_ok-values.ensures)
    ∙ length-map-range_with_len (λ k. residue_of (cosine_at c.args.cosines.now (size_of c.args.levels) (SUM_STEP ^ k))) 0 (2 ^ c.args.levels)

pub returns : goal.returns
returns c =
    let items : c.deref_mut.result.now ≡ cosine_list c.args.cosines.now c.args.levels = c.deref_mut.ensures.value ∙ c.in_ok-values.ensures in
    let size : length c.make_factor.new.values ≡ c.in_ok-values.values.len = omega (arith, c.deref_mut.ensures.len) in
    take_at c.make_factor.new.values _ c.in_ok-values.values.len size
    ∙ (c.make_factor.ensures ∙ ap (factor_of c.args.levels) items)
