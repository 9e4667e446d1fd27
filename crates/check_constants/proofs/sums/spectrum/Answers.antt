use Rattle.std.proofs.Common.{◌≡◌, ◌≤◌, ◌++◌, ◌∷◌, [], ℤ, List, unsigned_abs, length, ap, sym, subst, arith, rules, to_z, of_z, w64}
use Rattle.std.proofs.lemmas.List.{length_push}
use Rattle.std.proofs.lemmas.Int.{to_z-of_z}
use Rattle.model_synthesis.specs.declared.limits.TheConstants.{SPECTRUM_LIMIT}
use Rattle.half_sums.specs.Places.{AreBins}
use Rattle.half_sums.proofs.Pushed.{bins_pushed}
use Rattle.check_constants.proofs.sums.spectrum.Goals as goal

pub loop-k-preserved : goal.loop-k-preserved
loop-k-preserved c =
    let before = c.loop-k.values.items in
    let x = to_z w64 (of_z w64 c.bin.result) in
    let read : to_z w64 (of_z w64 c.bin.result) ≡ c.bin.result = to_z-of_z w64 c.bin.result (search rules) in
    let pushed : c.push.new.self.items ≡ before ++ to_z w64 (of_z w64 c.bin.result) ∷ [] = c.in_ok-push.ensures.items in
    record {
      count = omega (arith, ap length pushed, length_push before x);
      small = subst (λ (l : List ℤ). AreBins l) (sym pushed)
          (bins_pushed SPECTRUM_LIMIT before x (subst (λ (z : ℤ). unsigned_abs z ≤ SPECTRUM_LIMIT) (sym read) c.bin.ensures) c.loop-k.invariant.small);
    }
