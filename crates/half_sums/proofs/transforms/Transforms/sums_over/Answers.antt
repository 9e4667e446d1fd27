use Rattle.std.proofs.Common.{◌≡◌, ◌-◌, ◌*◌, ◌^◌, ◌≤◌, ◌∙◌, ap, sym, subst, List, length, slice_get, arith}
use Rattle.half_sums.specs.declared.places.Place.{Place}
use Rattle.half_sums.specs.declared.transforms.TheConstants.{LEAST_LEVELS}
use Rattle.half_sums.specs.Blocks.{AreCosines, IsBlockFor, cosine_list}
use Rattle.half_sums.proofs.LaidOut.{block_at, length-factor_of}
use Rattle.half_sums.proofs.SumsAtPlaces.{power_sum, power_sum_small, products_are, target, places_agree, sums_are}
use Rattle.std.proofs.Math.Pow.{pow_mono}
use Rattle.half_sums.proofs.SmallSums.{half_sums_are}
use Rattle.half_sums.proofs.transforms.Transforms.sums_over.Goals as goal

pub multiply-requires-clause-factor : goal.multiply-requires-clause-factor
multiply-requires-clause-factor c =
    let is = block_at c.self.inside.cosines.items c.self.inside.blocks.items c.args.levels (c.args.levels - LEAST_LEVELS) c.index-block.result.now c.self.invariant (omega arith) (omega arith) c.index-block.ensures in
    ap length (c.deref-2.ensures.value ∙ is.factor) ∙ length-factor_of c.args.levels (cosine_list c.self.inside.cosines.items c.args.levels)

pub scatter-requires-clause-size : goal.scatter-requires-clause-size
scatter-requires-clause-size c =
    let is = block_at c.self.inside.cosines.items c.self.inside.blocks.items c.args.levels (c.args.levels - LEAST_LEVELS) c.index-block.result.now c.self.invariant (omega arith) (omega arith) c.index-block.ensures in
    let count : length c.deref-3.result.now ≡ 2 ^ c.args.levels = ap length c.deref-3.ensures.value ∙ is.sums.count in
    omega arith

pub scatter-requires-clause-index : goal.scatter-requires-clause-index
scatter-requires-clause-index c a p got =
    let is = block_at c.self.inside.cosines.items c.self.inside.blocks.items c.args.levels (c.args.levels - LEAST_LEVELS) c.index-block.result.now c.self.invariant (omega arith) (omega arith) c.index-block.ensures in
    let at = is.sums.each a p (ap (λ (l : List Place). slice_get l a) (sym c.deref-3.ensures.value) ∙ got) in
    omega (arith, at.within)

pub returns : goal.returns
returns c =
    let levels = c.args.levels in
    let block = c.index-block.result.now in
    let spectrum = c.args.spectrum.now in
    let bins = c.requires.bins in
    let most : 2 ^ levels ≤ 2 ^ 12 = pow_mono c.requires.most in
    half_sums_are c.self.inside.cosines.items c.args.self.now c.scatter.new.sums spectrum (2 * 2 ^ levels) c.self.invariant.right c.self.view_is bins (omega arith) (ap (λ n. 2 * n) c.requires.spectrum)
    (λ tables same.
    let inside : c.self.inside.cosines.items ≡ tables.cosines = c.self.view_is ∙ sym same in
    let is : IsBlockFor levels tables.cosines block =
    subst (λ l. IsBlockFor levels l block) inside
    (block_at c.self.inside.cosines.items c.self.inside.blocks.items levels (levels - LEAST_LEVELS) block c.self.invariant (omega arith) (omega arith) c.index-block.ensures) in
    let right : AreCosines tables.cosines = subst AreCosines inside c.self.invariant.right in
    let products = products_are levels tables block right is spectrum bins c.gather.new.values c.multiply.new.values
    (λ b p got. c.gather.ensures.values b p (ap (λ (l : List Place). slice_get l b) c.deref.ensures.value ∙ got))
    (c.multiply.ensures.product (cosine_list tables.cosines levels) (c.deref-2.ensures.value ∙ is.factor)) in
    sums_are levels tables block right is spectrum bins c.scatter.new.sums (omega arith) (λ a p got.
    c.scatter.ensures (power_sum levels tables block right is spectrum bins) (target levels tables block right is spectrum bins)
    (λ i below. (products i (omega arith), power_sum_small levels tables block right is spectrum bins i))
    (λ i q here. places_agree levels tables block right is spectrum bins i q (ap (λ (l : List Place). slice_get l i) (sym c.deref-3.ensures.value) ∙ here))
    a p (ap (λ (l : List Place). slice_get l a) c.deref-3.ensures.value ∙ got)))
