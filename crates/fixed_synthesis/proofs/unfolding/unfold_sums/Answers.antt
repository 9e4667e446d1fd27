use Rattle.std.proofs.Common.{◌≡◌, ◌+◌, ◌-◌, ◌*◌, ◌/◌, ◌<◌, ◌≤◌, ◌∙◌, ℕ, ℤ, ap, sym, List, pos, neg_ℤ, length, get_or, to_z, of_z, w64, rules, inl, inr, arith}
use Rattle.std.proofs.lemmas.Int.{to_z-of_z, fits_signed_from_abs}
use Rattle.std.proofs.lemmas.List.FromFn.{fill_by_all}
use Rattle.model_fixed.specs.Fixed.{shift_down}
use Rattle.model_synthesis.proofs.BlockSizes.{block_size_in_quarters}
use Rattle.half_sums.specs.HalfSums.{IsSum}
use Rattle.fixed_synthesis.specs.Unfolding.{unfolded_sum, unfolded}
use Rattle.fixed_synthesis.proofs.AllSums.{all_written, first_sum, second_sum, third_sum, fourth_sum, four_written, sum_small}
use Rattle.fixed_synthesis.proofs.unfolding.unfold_sums.Goals as goal

read : (z : ℤ) → IsSum z → to_z w64 (of_z w64 z) ≡ z
read z h = to_z-of_z w64 z (fits_signed_from_abs w64 z (omega (arith, h)))

pub loop-j-init : goal.loop-j-init
loop-j-init c i written = elim written [
  | inl low ↦ absurd (omega arith)
  | inr (inl middle) ↦ absurd (omega arith)
  | inr (inr high) ↦ absurd (omega arith)
]

pub loop-j-preserved : goal.loop-j-preserved
loop-j-preserved c =
    let quarters = block_size_in_quarters (length c.args.out.now) c.requires.size in
    let whole : length c.args.out.now ≡ 4 * quarters.0 = quarters.1 in
    let q : ℕ = length c.args.sums.now / 2 in
    let j = c.loop-j.j in
    let bits = c.args.bits in
    let sums : List ℤ = c.args.sums.now in
    let size : 2 * length c.args.sums.now ≡ 4 * (length c.args.sums.now / 2) = omega arith in
    let below : c.loop-j.j < length c.args.sums.now / 2 = omega arith in
    let front = get_or c.args.sums.now c.loop-j.j (pos 0) in
    let back = get_or c.args.sums.now (length c.args.sums.now / 2 + c.loop-j.j) (pos 0) in
    let f : ℕ → ℤ = λ i. shift_down (unfolded_sum (2 * length c.args.sums.now) c.args.sums.now i) c.args.bits in
    let small = sum_small sums c.requires.small in
    let first : to_z w64 (of_z w64 c.divided-first.result) ≡ shift_down front bits =
    to_z-of_z w64 c.divided-first.result (search rules)
    ∙ (c.divided-first.ensures ∙ ap (λ z. shift_down z bits) (read front (small j))) in
    let second : to_z w64 (of_z w64 c.opposite_divided-second.result) ≡ shift_down (neg_ℤ front) bits =
    to_z-of_z w64 c.opposite_divided-second.result (search rules)
    ∙ (c.opposite_divided-second.ensures ∙ ap (λ z. shift_down (neg_ℤ z) bits) (read front (small j))) in
    let third : to_z w64 (of_z w64 c.divided-third.result) ≡ shift_down back bits =
    to_z-of_z w64 c.divided-third.result (search rules)
    ∙ (c.divided-third.ensures ∙ ap (λ z. shift_down z bits) (read back (small (q + j)))) in
    four_written f c.loop-j.out (length c.args.sums.now / 2) c.loop-j.j _ _ _ _ (omega arith) below
    (first ∙ ap (λ z. shift_down z bits) (sym (first_sum (2 * length sums) q sums j size below)))
    (second ∙ ap (λ z. shift_down z bits) (sym (second_sum (2 * length sums) q sums (2 * q - 1 - j) size j (omega arith) below)))
    (third ∙ ap (λ z. shift_down z bits) (sym (third_sum (2 * length sums) q sums (2 * q + j) size (q + j) (omega arith) (omega arith) (omega arith))))
    (third ∙ ap (λ z. shift_down z bits) (sym (fourth_sum (2 * length sums) q sums (4 * q - 1 - j) size (q + j) (omega arith) (omega arith) (omega arith))))
    c.loop-j.invariant

pub returns : goal.returns
unfolding unfolded
returns c =
    let quarters = block_size_in_quarters (length c.args.out.now) c.requires.size in
    let whole : length c.args.out.now ≡ 4 * quarters.0 = quarters.1 in
    let q : ℕ = length c.args.sums.now / 2 in
    let all : c.loop-j.j ≡ length c.args.sums.now / 2 = omega arith in
    fill_by_all (λ i. shift_down (unfolded_sum (2 * length c.args.sums.now) c.args.sums.now i) c.args.bits) c.loop-j.out (2 * length c.args.sums.now) (pos 0) (omega arith)
    (λ i h. c.loop-j.invariant i (rw all (all_written q i (omega arith))))
