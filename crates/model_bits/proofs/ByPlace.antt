-- The bits of a packet, as their places say.
use Rattle.std.proofs.Common.{◌≡◌, ℕ, zero, suc, ◌+◌, ◌*◌, ◌/◌, ◌%◌, ◌^◌, ◌≤◌, List, [], ◌∷◌, ◌++◌, length, get_or, take, drop, refl, ap, sym, ◌∙◌, arith, Some, None, cond, false}
use Rattle.std.proofs.lemmas.Bool.{le-leb, lt-leb}
use native.Mathlib.Decide.{dec_le}
use Rattle.std.specs.List.{range_with_len}
use Rattle.std.specs.Prelude.{sum_by}
use Rattle.std.proofs.lemmas.List.Sums.{sum_by_push}
use Rattle.model_bits.specs.Bits.{bits_of, bit_value, number_of}
use Rattle.model_bits.specs.Places.{packet_bit, number_at, TakesByPlace}
use Rattle.model_bits.proofs.BitList.{length-bits_of, number_of_more, bit_at_place, odd, takes, used_up}

counting_on : (a n j : ℕ) → a + n ≡ j → range_with_len a (suc n) ≡ range_with_len a n ++ j ∷ []
counting_on a zero j e = let same : a ≡ j = omega arith in ap (λ k. k ∷ []) same
counting_on a (suc n) j e = ap (λ xs. a ∷ xs) (counting_on (a + 1) n j (omega arith))

-- the number of bits from a place on is the sum of the bits by their places
pub number_of_places : (bytes : List ℕ) (place count : ℕ) → place + count ≤ 8 * length bytes
    → number_of (take count (drop place (bits_of bytes))) ≡ sum_by (λ j. packet_bit bytes (place + j) * 2 ^ j) (range_with_len 0 count)
number_of_places bytes place zero within = refl
number_of_places bytes place (suc count) within =
    let f : ℕ → ℕ = λ j. packet_bit bytes (place + j) * 2 ^ j in
    let q = place + count in
    let more = number_of_more (bits_of bytes) place count (rw length-bits_of (omega arith)) in
    let here : bit_value (get_or (bits_of bytes) q false) ≡ packet_bit bytes q = ap bit_value (bit_at_place bytes q (omega arith)) ∙ odd (get_or bytes (q / 8) 0 / 2 ^ (q % 8)) in
    let before = number_of_places bytes place count (omega arith) in
    let sums : sum_by f (range_with_len 0 (suc count)) ≡ sum_by f (range_with_len 0 count) + f count = ap (sum_by f) (counting_on 0 count (0 + count) refl) ∙ sum_by_push f (range_with_len 0 count) (0 + count) ∙ ap (λ j. sum_by f (range_with_len 0 count) + f j) (omega arith) in
    let s : suc count ≡ count + 1 = omega arith in
    ap (λ n. number_of (take n (drop place (bits_of bytes)))) s ∙ more ∙ ap (λ b. number_of (take count (drop place (bits_of bytes))) + b * 2 ^ count) here ∙ ap (λ n. n + f count) before ∙ sym sums

pub takes_by_place : TakesByPlace
takes_by_place bytes place count inside =
    elim (dec_le (place + count) (8 * length bytes)) [
      | yes within ↦
          let n : number_at bytes place count ≡ Some (number_of (take count (drop place (bits_of bytes)))) =
          ap (λ b. cond b (Some (sum_by (λ j. packet_bit bytes (place + j) * 2 ^ j) (range_with_len 0 count))) None) (le-leb (place + count) (8 * length bytes) within)
          ∙ ap Some (sym (number_of_places bytes place count within)) in
          rw n (takes bytes place count (omega arith))
      | no past ↦
          let n : number_at bytes place count ≡ None =
          ap (λ b. cond b (Some (sum_by (λ j. packet_bit bytes (place + j) * 2 ^ j) (range_with_len 0 count))) None) (lt-leb (place + count) (8 * length bytes) (omega arith)) in
          rw n (used_up bytes place count (omega arith)).0
    ]
