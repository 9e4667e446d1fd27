use Rattle.std.proofs.Common.{◌≡◌, ◌≤◌, ◌<◌, ◌-◌, ◌*◌, ◌^◌, ◌∙◌, ◌+ℤ◌, ℕ, ℤ, pos, ap, sym, subst, List, length, slice_get, slice_index, arith}
use Rattle.std.proofs.Math.Nat.{mod-eq_of_lt}
use Rattle.std.proofs.Math.Pow.{pow_mono}
use Rattle.number_transform.specs.Products.{total}
use Rattle.model_synthesis.specs.declared.constants.TheConstants.{SCALE}
use Rattle.half_sums.specs.declared.places.Place.{Place}
use Rattle.half_sums.specs.declared.transforms.TheConstants.{LEAST_LEVELS}
use Rattle.half_sums.specs.Blocks.{AreCosines, IsBlockFor}
use Rattle.half_sums.specs.Shares.{bin_at, share_start, share_sum}
use Rattle.half_sums.proofs.LaidOut.{block_at}
use Rattle.half_sums.proofs.LaneLemmas.{share_sum_small, few_shares}
use Rattle.half_sums.proofs.ShareSums.{shares_are}
use Rattle.half_sums.proofs.SmallSums.{half_sums_are}
use Rattle.half_sums.proofs.SumsAtPlaces.{power_sum, target, places_agree, sums_are}
use Rattle.half_sums.proofs.transforms.Transforms.lanes_over.Goals as goal

few_bins : (levels : ℕ) → levels ≤ 7 → 2 ^ levels ≤ 128
few_bins levels h = let most : 2 ^ levels ≤ 2 ^ 7 = pow_mono h in omega arith

pub gather_shares-requires-clause-few : goal.gather_shares-requires-clause-few
gather_shares-requires-clause-few c =
    let is = block_at c.self.inside.cosines.items c.self.inside.blocks.items c.args.levels (c.args.levels - LEAST_LEVELS) c.index-block.result.now c.self.invariant (omega arith) (omega arith) c.index-block.ensures in
    let most : 2 ^ c.args.levels ≤ 128 = few_bins c.args.levels c.requires.most in
    let count : length c.deref.result.now ≡ 2 ^ c.args.levels = ap length c.deref.ensures.value ∙ is.bins.count in
    omega arith

pub gather_shares-requires-clause-magnitudes : goal.gather_shares-requires-clause-magnitudes
gather_shares-requires-clause-magnitudes c =
    let is = block_at c.self.inside.cosines.items c.self.inside.blocks.items c.args.levels (c.args.levels - LEAST_LEVELS) c.index-block.result.now c.self.invariant (omega arith) (omega arith) c.index-block.ensures in
    let count : length c.deref.result.now ≡ 2 ^ c.args.levels = ap length c.deref.ensures.value ∙ is.bins.count in
    omega arith

pub gather_shares-requires-clause-starts : goal.gather_shares-requires-clause-starts
gather_shares-requires-clause-starts c =
    let is = block_at c.self.inside.cosines.items c.self.inside.blocks.items c.args.levels (c.args.levels - LEAST_LEVELS) c.index-block.result.now c.self.invariant (omega arith) (omega arith) c.index-block.ensures in
    let count : length c.deref.result.now ≡ 2 ^ c.args.levels = ap length c.deref.ensures.value ∙ is.bins.count in
    omega arith

pub gather_shares-requires-clause-index : goal.gather_shares-requires-clause-index
gather_shares-requires-clause-index c b p got =
    let is = block_at c.self.inside.cosines.items c.self.inside.blocks.items c.args.levels (c.args.levels - LEAST_LEVELS) c.index-block.result.now c.self.invariant (omega arith) (omega arith) c.index-block.ensures in
    let at = is.bins.each b p (ap (λ (l : List Place). slice_get l b) (sym c.deref.ensures.value) ∙ got) in
    omega (arith, at.0)

pub share_sums-requires-clause-room : goal.share_sums-requires-clause-room
share_sums-requires-clause-room c =
    let is = block_at c.self.inside.cosines.items c.self.inside.blocks.items c.args.levels (c.args.levels - LEAST_LEVELS) c.index-block.result.now c.self.invariant (omega arith) (omega arith) c.index-block.ensures in
    let count : length c.deref.result.now ≡ 2 ^ c.args.levels = ap length c.deref.ensures.value ∙ is.bins.count in
    let waves : length c.deref-2.result.now ≡ 3 * 2 ^ c.args.levels = ap length c.deref-2.ensures.value ∙ (is.waves c.requires.most).count in
    omega arith

pub share_sums-requires-clause-magnitudes : goal.share_sums-requires-clause-magnitudes
share_sums-requires-clause-magnitudes c b below =
    let is = block_at c.self.inside.cosines.items c.self.inside.blocks.items c.args.levels (c.args.levels - LEAST_LEVELS) c.index-block.result.now c.self.invariant (omega arith) (omega arith) c.index-block.ensures in
    let count : length c.deref.result.now ≡ 2 ^ c.args.levels = ap length c.deref.ensures.value ∙ is.bins.count in
    c.gather_shares.ensures.small b (omega arith)

pub share_sums-requires-clause-within : goal.share_sums-requires-clause-within
share_sums-requires-clause-within c b below =
    let is = block_at c.self.inside.cosines.items c.self.inside.blocks.items c.args.levels (c.args.levels - LEAST_LEVELS) c.index-block.result.now c.self.invariant (omega arith) (omega arith) c.index-block.ensures in
    let count : length c.deref.result.now ≡ 2 ^ c.args.levels = ap length c.deref.ensures.value ∙ is.bins.count in
    let same : length c.deref.result.now ≡ length c.gather_shares.new.magnitudes = omega arith in
    subst (λ n. slice_index c.gather_shares.new.starts b ≤ 2 * n) same (c.gather_shares.ensures.within b (omega arith))

pub share_sums-requires-clause-waves : goal.share_sums-requires-clause-waves
share_sums-requires-clause-waves c =
    let is = block_at c.self.inside.cosines.items c.self.inside.blocks.items c.args.levels (c.args.levels - LEAST_LEVELS) c.index-block.result.now c.self.invariant (omega arith) (omega arith) c.index-block.ensures in
    subst (λ (l : List ℕ). (k : ℕ) → slice_index l k ≤ 2 ^ 24) (sym c.deref-2.ensures.value) (is.waves c.requires.most).small

pub whole_magnitude-requires-clause-magnitudes : goal.whole_magnitude-requires-clause-magnitudes
whole_magnitude-requires-clause-magnitudes c b below =
    let is = block_at c.self.inside.cosines.items c.self.inside.blocks.items c.args.levels (c.args.levels - LEAST_LEVELS) c.index-block.result.now c.self.invariant (omega arith) (omega arith) c.index-block.ensures in
    let count : length c.deref.result.now ≡ 2 ^ c.args.levels = ap length c.deref.ensures.value ∙ is.bins.count in
    c.gather_shares.ensures.small b (omega arith)

pub place_sums-requires-clause-size : goal.place_sums-requires-clause-size
place_sums-requires-clause-size c =
    let is = block_at c.self.inside.cosines.items c.self.inside.blocks.items c.args.levels (c.args.levels - LEAST_LEVELS) c.index-block.result.now c.self.invariant (omega arith) (omega arith) c.index-block.ensures in
    let places : length c.deref-3.result.now ≡ 2 ^ c.args.levels = ap length c.deref-3.ensures.value ∙ is.sums.count in
    omega arith

pub place_sums-requires-clause-values : goal.place_sums-requires-clause-values
place_sums-requires-clause-values c a below =
    let is = block_at c.self.inside.cosines.items c.self.inside.blocks.items c.args.levels (c.args.levels - LEAST_LEVELS) c.index-block.result.now c.self.invariant (omega arith) (omega arith) c.index-block.ensures in
    let count : length c.deref.result.now ≡ 2 ^ c.args.levels = ap length c.deref.ensures.value ∙ is.bins.count in
    let most : 2 ^ c.args.levels ≤ 128 = few_bins c.args.levels c.requires.most in
    subst (λ x. x ≤ 2 ^ 62) (sym (c.share_sums.ensures a (omega arith)))
    (few_shares _ (length c.gather_shares.new.magnitudes)
    (share_sum_small c.gather_shares.new.magnitudes c.gather_shares.new.starts c.deref-2.result.now (length c.gather_shares.new.magnitudes) a (λ b h. c.gather_shares.ensures.small b (omega arith))
    (subst (λ (l : List ℕ). (k : ℕ) → slice_index l k ≤ 2 ^ 24) (sym c.deref-2.ensures.value) (is.waves c.requires.most).small))
    (omega arith))

pub place_sums-requires-clause-index : goal.place_sums-requires-clause-index
place_sums-requires-clause-index c a p got =
    let is = block_at c.self.inside.cosines.items c.self.inside.blocks.items c.args.levels (c.args.levels - LEAST_LEVELS) c.index-block.result.now c.self.invariant (omega arith) (omega arith) c.index-block.ensures in
    let at = is.sums.each a p (ap (λ (l : List Place). slice_get l a) (sym c.deref-3.ensures.value) ∙ got) in
    omega (arith, at.within)

-- what is put in the places
raised_sums : (n : ℕ) (magnitudes starts waves waves' : List ℕ) (value raised a : ℕ) (z : ℤ) → n ≡ length magnitudes → waves ≡ waves'
    → value ≡ share_sum magnitudes starts waves (length magnitudes) a
    → raised ≡ total (length magnitudes) (slice_index magnitudes) * 2 ^ SCALE
    → pos (share_sum magnitudes starts waves' n a) ≡ (z +ℤ pos (total n (slice_index magnitudes) * 2 ^ SCALE))
    → pos value ≡ (z +ℤ pos raised)
raised_sums n magnitudes starts waves waves' value raised a z en ew ev er e =
    ap pos (ev ∙ (ap (λ (l : List ℕ). share_sum magnitudes starts l (length magnitudes) a) ew ∙ ap (λ m. share_sum magnitudes starts waves' m a) (sym en)))
    ∙ (e ∙ ap (λ x. z +ℤ pos x) (ap (λ m. total m (slice_index magnitudes) * 2 ^ SCALE) en ∙ sym er))

pub returns : goal.returns
returns c =
    let levels = c.args.levels in
    let block = c.index-block.result.now in
    let spectrum = c.args.spectrum.now in
    let bins = c.requires.bins in
    let most : 2 ^ levels ≤ 128 = few_bins levels c.requires.most in
    half_sums_are c.self.inside.cosines.items c.args.self.now c.place_sums.new.sums spectrum (2 * 2 ^ levels) c.self.invariant.right c.self.view_is bins (omega arith) (ap (λ n. 2 * n) c.requires.spectrum)
    (λ tables same.
    let inside : c.self.inside.cosines.items ≡ tables.cosines = c.self.view_is ∙ sym same in
    let is : IsBlockFor levels tables.cosines block =
    subst (λ l. IsBlockFor levels l block) inside
    (block_at c.self.inside.cosines.items c.self.inside.blocks.items levels (levels - LEAST_LEVELS) block c.self.invariant (omega arith) (omega arith) c.index-block.ensures) in
    let right : AreCosines tables.cosines = subst AreCosines inside c.self.invariant.right in
    let magnitudes = c.gather_shares.new.magnitudes in
    let starts = c.gather_shares.new.starts in
    let count : length c.deref.result.now ≡ 2 ^ c.args.levels = ap length c.deref.ensures.value ∙ is.bins.count in
    let size : 2 ^ c.args.levels ≡ length c.gather_shares.new.magnitudes = omega arith in
    let fits : c.whole_magnitude.result * 8388608 < 2 ^ 64 = omega arith in
    let raised = mod-eq_of_lt fits ∙ ap (λ (x : ℕ). x * 2 ^ SCALE) c.whole_magnitude.ensures.value in
    let shares = shares_are levels tables block right is spectrum bins magnitudes starts c.requires.most
    (λ b p got. c.gather_shares.ensures.magnitudes b p (ap (λ (l : List Place). slice_get l b) c.deref.ensures.value ∙ got))
    (λ b p got. c.gather_shares.ensures.starts b p (ap (λ (l : List Place). slice_get l b) c.deref.ensures.value ∙ got)
    ∙ ap (λ n. share_start n (bin_at spectrum p) b) count) in
    sums_are levels tables block right is spectrum bins c.place_sums.new.sums (omega arith) (λ a p got.
    c.place_sums.ensures (power_sum levels tables block right is spectrum bins) (target levels tables block right is spectrum bins)
    (λ i below. raised_sums (2 ^ levels) magnitudes starts c.deref-2.result.now block.waves.items (slice_index c.share_sums.new.values i) _ i
    (power_sum levels tables block right is spectrum bins i) size c.deref-2.ensures.value (c.share_sums.ensures i (omega arith)) raised (shares i (omega arith)))
    (λ i q here. places_agree levels tables block right is spectrum bins i q (ap (λ (l : List Place). slice_get l i) (sym c.deref-3.ensures.value) ∙ here))
    a p (ap (λ (l : List Place). slice_get l a) c.deref-3.ensures.value ∙ got)))
