use Rattle.std.proofs.Common.{◌≡◌, ◌≤◌, ◌<◌, ◌-◌, ◌*◌, ◌%◌, ◌^◌, ◌∙◌, ℕ, length, get_or, slice_index, sym, ap, subst, arith}
use Rattle.std.proofs.Math.Pow.{pow_mono}
use Rattle.std.proofs.lemmas.List.FromFn.{fill_by_all}
use Rattle.number_transform.specs.declared.field.TheConstants.{PRIME}
use Rattle.number_transform.specs.Products.{product}
use Rattle.number_transform.specs.Remainders.{AreInverses, remainders, products}
use Rattle.number_transform.proofs.RemainderLaws.{remainders_product}
use Rattle.number_transform.specs.declared.multiplier.TheConstants.{HALF}
use Rattle.number_transform.specs.Roots.{root_table, inverse_table}
use Rattle.number_transform.specs.Factors.{factor_of}
use Rattle.number_transform.proofs.RootLaws.{root_table_laws, inverse_table_laws, length-root_table, length-inverse_table}
use Rattle.number_transform.proofs.Scales.{unscaled}
use Rattle.number_transform.proofs.multiplier.Multiplier.multiply.Goals as goal

pub forward-requires-clause-node : goal.forward-requires-clause-node
forward-requires-clause-node c =
    let e : c.deref.result.now ≡ root_table = c.deref.ensures.value ∙ c.args.self.now.right.grown in
    let size : length c.deref.result.now ≡ 4096 = ap length e ∙ length-root_table in
    let most : 2 ^ c.args.levels ≤ 2 ^ 12 = pow_mono c.requires.few in
    omega arith

pub forward-requires-clause-roots : goal.forward-requires-clause-roots
forward-requires-clause-roots c =
    let e : c.deref.result.now ≡ root_table = c.deref.ensures.value ∙ c.args.self.now.right.grown in
    subst (λ l. (i : ℕ) → get_or l i 0 < PRIME) (sym e) root_table_laws.small

pub inverse-requires-clause-node : goal.inverse-requires-clause-node
inverse-requires-clause-node c =
    let e : c.deref-2.result.now ≡ inverse_table = c.deref-2.ensures.value ∙ c.args.self.now.right.inverted in
    let size : length c.deref-2.result.now ≡ 4096 = ap length e ∙ length-inverse_table in
    let most : 2 ^ c.args.levels ≤ 2 ^ 12 = pow_mono c.requires.few in
    omega arith

pub returns-clause-product : goal.returns-clause-product
unfolding factor_of
returns-clause-product c b given =
    let w = slice_index root_table in
    let levels = c.args.levels in
    let n = 2 ^ levels in
    let a = slice_index c.args.values.now in
    let scaled = λ (k : ℕ). HALF ^ levels * slice_index b k in
    let ab = product (PRIME - 1) n a scaled in
    let e : c.deref.result.now ≡ root_table = c.deref.ensures.value ∙ c.args.self.now.right.grown in
    let f : c.deref-2.result.now ≡ inverse_table = c.deref-2.ensures.value ∙ c.args.self.now.right.inverted in
    let most : 2 ^ levels ≤ 2 ^ 12 = pow_mono c.requires.few in
    let size : length root_table ≡ 4096 = length-root_table in
    let top = λ (deep : 0 < levels).
    root_table_laws.right 0 (omega arith) ∙ ap (λ x. (PRIME - x) % PRIME) root_table_laws.start in
    let parts : c.multiply_places.new.values ≡ remainders w levels 1 ab =
    c.multiply_places.ensures.products
    ∙ (ap (λ l. products l c.args.factor.now) (c.forward.ensures.remainders ∙ ap (λ l. remainders (slice_index l) levels 1 a) e)
    ∙ (ap (λ l. products (remainders w levels 1 a) l) given
    ∙ sym (remainders_product w (length root_table) levels 1 (PRIME - 1) a scaled root_table_laws (omega arith) (omega arith) top))) in
    let same : length root_table ≡ length c.deref-2.result.now = size ∙ sym (ap length f ∙ length-inverse_table) in
    let laws : AreInverses w (slice_index c.deref-2.result.now) (length c.deref-2.result.now) =
    subst (λ l. AreInverses w (slice_index l) (length c.deref-2.result.now)) (sym f)
    (subst (λ m. AreInverses w (slice_index inverse_table) m) same inverse_table_laws) in
    fill_by_all _ _ n 0 (omega arith) (λ k below.
    c.inverse.ensures.polynomial w ab laws parts k below ∙ unscaled levels (PRIME - 1) n a (slice_index b) k below)
