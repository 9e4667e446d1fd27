use Rattle.std.proofs.Common.{◌≡◌, ◌-◌, map, ◌+ℤ◌, ◌/◌, ◌%◌, ◌*◌, ◌<◌, pos, length, get_or, ap, sym, ◌∙◌, refl, arith, w64, to_z, of_z}
use Rattle.std.specs.Prelude.{FitsSigned}
use Rattle.std.proofs.lemmas.Int.{to_z-of_z}
use Rattle.std.proofs.lemmas.List.FromFn.{fill_by_all}
use Rattle.model_setup.specs.Codebook.{Lookup}
use Rattle.model_setup.specs.Vectors.{multiplicand_at, value_at, value_on, carried_on, vector_of}
use Rattle.model_fixed.specs.Fixed.{limited}
use Rattle.std.proofs.lemmas.Nat.{div-add-mod', mod_below}
use Rattle.codebooks.specs.Units.{unit_of}
use Rattle.codebooks.proofs.Units.{unit_read, unit_read_small, units_length}
use Rattle.codebooks.proofs.Fills.{carried_to, carried_next, value_here, digits_next, digit_read, filled_more}
use Rattle.codebooks.proofs.lookup.VectorTable.fill_by_digits.Goals as goal
use Rattle.std.proofs.Math.Nat.{div-one, pow-zero}

pub loop-i-init : goal.loop-i-init
unfolding carried_to
loop-i-init c = record { done = λ k h. absurd (omega arith); last = refl; small = omega arith; rest = rw pow-zero (sym (div-one c.args.entry)) }

pub value_of-value-requires-clause-unit : goal.value_of-value-requires-clause-unit
value_of-value-requires-clause-unit c =
    let s = c.args.self.now in
    let xs = c.as_slice-units.result.now in
    let same : xs ≡ map (unit_of s.minimum s.delta) s.multiplicands = c.as_slice-units.ensures.value ∙ c.self.invariant.units_are ∙ ap (λ (l : Lookup). map (unit_of l.minimum l.delta) l.multiplicands) c.self.view_is in
    let long : length xs ≡ length s.multiplicands = units_length s xs same in
    let base = length s.multiplicands in
    let rest = c.loop-i.rest in
    let some : 0 < base = c.requires.some in
    let others : c.quotient-others.result ≡ rest / base = c.quotient-others.ensures ∙ ap (λ n. rest / n) long in
    let k = rest - c.quotient-others.result * length xs in
    let is_digit : k ≡ rest % base = rw (others, long) (omega (arith, div-add-mod' rest base)) in
    let within : k < length s.multiplicands = omega (arith, mod_below rest base some) in
    unit_read_small s xs k same within

pub loop-i-preserved : goal.loop-i-preserved
loop-i-preserved c =
    let s = c.args.self.now in
    let xs = c.as_slice-units.result.now in
    let same : xs ≡ map (unit_of s.minimum s.delta) s.multiplicands = c.as_slice-units.ensures.value ∙ c.self.invariant.units_are ∙ ap (λ (l : Lookup). map (unit_of l.minimum l.delta) l.multiplicands) c.self.view_is in
    let long : length xs ≡ length s.multiplicands = units_length s xs same in
    let base = length s.multiplicands in
    let rest = c.loop-i.rest in
    let some : 0 < base = c.requires.some in
    let others : c.quotient-others.result ≡ rest / base = c.quotient-others.ensures ∙ ap (λ n. rest / n) long in
    let k = rest - c.quotient-others.result * length xs in
    let is_digit : k ≡ rest % base = rw (others, long) (omega (arith, div-add-mod' rest base)) in
    let within : k < length s.multiplicands = omega (arith, mod_below rest base some) in
    let i = c.loop-i.i in
    let d = length c.args.out.now in
    let m : get_or s.multiplicands k 0 ≡ multiplicand_at d s c.args.entry i = ap (λ n. get_or s.multiplicands n 0) is_digit ∙ digit_read d s c.args.entry i rest s.multiplicands c.requires.kind refl c.loop-i.invariant.rest in
    let unit = unit_read s xs k same within in
    let fits : FitsSigned w64 c.value_of-value.result = record { sfits = c.value_of-value.type_inv } in
    let fits_last : FitsSigned w64 c.carried-last.result = record { sfits = c.carried-last.type_inv } in
    let is : c.value_of-value.result ≡ value_on s (to_z w64 c.loop-i.last-bits) (get_or s.multiplicands k 0) = c.value_of-value.ensures.value ∙ ap (λ u. limited (u +ℤ to_z w64 c.loop-i.last-bits)) unit in
    let v : c.value_of-value.result ≡ value_at d s c.args.entry i = value_here d s c.args.entry i (get_or s.multiplicands k 0) (to_z w64 c.loop-i.last-bits) c.value_of-value.result c.loop-i.invariant.last m is in
    let out : i < length c.loop-i.out = omega arith in
    let fits_now = to_z-of_z w64 c.value_of-value.result fits in
    let last_now = to_z-of_z w64 c.carried-last.result fits_last in
    record {
      done = filled_more c.loop-i.out (value_at d s c.args.entry) i (to_z w64 (of_z w64 c.value_of-value.result)) out c.loop-i.invariant.done (fits_now ∙ v);
      last = last_now ∙ c.carried-last.ensures.value ∙ ap (carried_on s) (fits_now ∙ v) ∙ sym (carried_next d s c.args.entry i);
      small = rw last_now c.carried-last.ensures.small;
      rest = others ∙ ap (λ n. n / base) c.loop-i.invariant.rest ∙ digits_next c.args.entry base i;
    }

pub returns : goal.returns
unfolding vector_of
returns c =
    let d = length c.args.out.now in
    let all : length c.loop-i.out ≡ d = omega arith in
    fill_by_all (value_at d c.args.self.now c.args.entry) c.loop-i.out d (pos 0) all (λ k h. c.loop-i.invariant.done k (omega arith))
