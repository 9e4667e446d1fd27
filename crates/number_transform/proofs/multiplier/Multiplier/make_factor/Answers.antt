use Rattle.std.proofs.Common.{◌≡◌, ◌≤◌, ◌<◌, ◌*◌, ◌%◌, ◌^◌, ◌∙◌, ℕ, length, get_or, slice_index, sym, ap, subst, arith}
use Rattle.std.proofs.Math.Pow.{pow_mono}
use Rattle.number_transform.specs.declared.field.TheConstants.{PRIME}
use Rattle.number_transform.specs.Remainders.{remainders}
use Rattle.number_transform.proofs.RemainderLaws.{remainders_same}
use Rattle.number_transform.specs.declared.multiplier.TheConstants.{HALF}
use Rattle.number_transform.specs.Roots.{root_table}
use Rattle.number_transform.specs.Factors.{factor_of}
use Rattle.number_transform.proofs.RootLaws.{root_table_laws, length-root_table}
use Rattle.number_transform.proofs.Scales.{scaled_residue}
use Rattle.number_transform.proofs.multiplier.Multiplier.make_factor.Goals as goal

pub forward-requires-clause-node : goal.forward-requires-clause-node
forward-requires-clause-node c =
    let e : c.deref.result.now ≡ root_table = c.deref.ensures.value ∙ c.args.self.now.right.grown in
    let size : length c.deref.result.now ≡ 4096 = ap length e ∙ length-root_table in
    let most : 2 ^ c.args.levels ≤ 2 ^ 12 = pow_mono c.requires.few in
    omega arith

pub forward-requires-clause-roots : goal.forward-requires-clause-roots
forward-requires-clause-roots c =
    let e : c.deref.result.now ≡ root_table = c.deref.ensures.value ∙ c.args.self.now.right.grown in
    subst (λ l. (i : ℕ) → get_or l i 0 < PRIME) (sym e) root_table_laws.small

pub returns : goal.returns
unfolding factor_of
returns c =
    let levels = c.args.levels in
    let e : c.deref.result.now ≡ root_table = c.deref.ensures.value ∙ c.args.self.now.right.grown in
    let same : c.from.result ≡ levels = omega arith in
    c.forward.ensures.remainders
    ∙ (ap (λ l. remainders (slice_index l) levels 1 (slice_index c.scale.new.values)) e
    ∙ remainders_same (slice_index root_table) levels 1 _ (λ k. HALF ^ levels * slice_index c.args.values.now k)
    (λ k below. scaled_residue levels _ _ _ (c.power.ensures.value ∙ ap (λ l. HALF ^ l % PRIME) same) (c.scale.ensures.values k (omega arith))))
