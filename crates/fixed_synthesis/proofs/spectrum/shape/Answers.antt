use Rattle.std.proofs.Common.{◌≡◌, ◌<◌, ◌^◌, ◌*ℤ◌, ◌∙◌, ap, sym, subst, pos, length, slice_index, get_or, to_z, of_z, w64, arith}
use Rattle.std.proofs.lemmas.List.Elements.{All-from_get_or}
use Rattle.std.proofs.lemmas.List.FromFn.{fill_by_all}
use Rattle.model_fixed.specs.Fixed.{clamp, shift_down}
use Rattle.model_synthesis.specs.declared.limits.TheConstants.{SPECTRUM_LIMIT, SHAPE_SHIFT}
use Rattle.model_synthesis.specs.Spectrum.{IsBin, shaped_bin, shaped}
use Rattle.fixed_synthesis.proofs.Bins.{as_64_bits}
use Rattle.fixed_synthesis.proofs.Filled.{set_more, clamp_small}
use Rattle.fixed_synthesis.proofs.spectrum.shape.Goals as goal

pub loop-k-preserved : goal.loop-k-preserved
loop-k-preserved c =
    let k = c.loop-k.k in
    let value = get_or c.args.residue.now k (pos 0) in
    let within : c.loop-k.k < length c.args.residue.now = omega arith in
    let small = c.requires.residue k (pos 0) within in
    let read : to_z w64 (of_z w64 (get_or c.args.residue.now c.loop-k.k (pos 0))) ≡ get_or c.args.residue.now c.loop-k.k (pos 0) =
    as_64_bits value (omega (arith, small)) in
    let written : to_z w64 (of_z w64 c.shaped_bin.result) ≡ c.shaped_bin.result = as_64_bits c.shaped_bin.result (omega (arith, c.shaped_bin.ensures.small)) in
    set_more (λ j. shaped_bin c.args.constants.now (get_or c.args.residue.now j (pos 0)) (slice_index c.args.curve.now j)) c.loop-k.out c.loop-k.k _ (omega arith)
    (written
    ∙ (c.shaped_bin.ensures.bin
    ∙ (ap (λ v. clamp SPECTRUM_LIMIT (shift_down (v *ℤ pos c.decibel.result) SHAPE_SHIFT)) read
    ∙ ap (λ d. clamp SPECTRUM_LIMIT (shift_down (value *ℤ pos d) SHAPE_SHIFT)) c.decibel.ensures.value)))
    c.loop-k.invariant

pub returns-clause-spectrum : goal.returns-clause-spectrum
unfolding shaped
returns-clause-spectrum c =
    fill_by_all (λ j. shaped_bin c.args.constants.now (get_or c.args.residue.now j (pos 0)) (slice_index c.args.curve.now j)) c.loop-k.out (length c.args.residue.now) (pos 0) (omega arith)
    (λ j h. c.loop-k.invariant j (omega arith))

pub returns-clause-small : goal.returns-clause-small
returns-clause-small c =
    All-from_get_or IsBin c.loop-k.out (pos 0)
    (λ j h. subst IsBin (sym (c.loop-k.invariant j (omega arith)))
    (clamp_small (2 ^ 27) (shift_down (get_or c.args.residue.now j (pos 0) *ℤ pos (slice_index c.args.constants.now.decibels (slice_index c.args.curve.now j))) SHAPE_SHIFT)))
