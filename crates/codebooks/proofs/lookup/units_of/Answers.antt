use Rattle.std.proofs.Common.{◌≡◌, ℤ, ◌++◌, [], ◌∷◌, get_or, ap, sym, ◌∙◌, w64, to_z, of_z}
use Rattle.std.specs.Prelude.{FitsSigned}
use Rattle.std.proofs.lemmas.Int.{to_z-of_z}
use Rattle.codebooks.specs.Units.{unit_of}
use Rattle.codebooks.proofs.Units.{units_more}
use Rattle.codebooks.proofs.lookup.units_of.Goals as goal

pub loop-multiplicand-preserved : goal.loop-multiplicand-preserved
loop-multiplicand-preserved c =
    let l = c.loop-multiplicand in
    let f = unit_of c.args.minimum c.args.delta in
    let xs = c.args.multiplicands.now in
    let i = l.multiplicand-index in
    let fits : FitsSigned w64 c.unit_of.result = record { sfits = c.unit_of.type_inv } in
    let v : to_z w64 (of_z w64 c.unit_of.result) ≡ f (get_or xs i 0) = to_z-of_z w64 c.unit_of.result fits ∙ c.unit_of.ensures in
    c.in_ok-push.ensures.items ∙ ap (λ (x : ℤ). l.units.items ++ x ∷ []) v ∙ ap (λ ys. ys ++ f (get_or xs i 0) ∷ []) l.invariant ∙ sym (units_more f xs i c.loop-multiplicand-test.true)
