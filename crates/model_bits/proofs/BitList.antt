-- The bits of bytes, by place.
use Rattle.std.proofs.Common.{◌≡◌, ℕ, zero, suc, ◌+◌, ◌-◌, ◌*◌, ◌/◌, ◌%◌, ◌^◌, ◌<◌, ◌≤◌, List, [], ◌∷◌, ◌++◌, length, get_or, take, drop, refl, ap, sym, ◌∙◌, arith, length-take, length-drop, length-append, get_or-drop, Some, None, cond, Bool, false, ◌==◌}
use Rattle.std.proofs.lemmas.List.{take_more, drop_all, drop-drop, get_or-append-add}
use Rattle.std.proofs.Math.ListN.{get_or-append}
use Rattle.std.proofs.lemmas.Bool.{lt-ltb, le-ltb}
use Rattle.std.proofs.lemmas.Bool.Decides.{nat_tests}
use native.Mathlib.Decide.{dec_lt}
use Rattle.std.proofs.Math.Nat.{pow-succ', div-one, div-div-eq-div-mul}
use Rattle.model_bits.specs.Bits.{bits_of, bits_of_number, bit_value, number_of, take_bits}

pub length-bits_of : (bytes : List ℕ) → length (bits_of bytes) ≡ 8 * length bytes
length-bits_of [] = refl
length-bits_of (byte ∷ bytes) = simp length-append (omega (arith, length-bits_of bytes))

-- bit k of a number
bit_of : (count n k : ℕ) → k < count → get_or (bits_of_number count n) k false ≡ (n / 2 ^ k % 2 == 1)
bit_of zero n k h = absurd (omega arith)
bit_of (suc count) n zero h = ap (λ m. m % 2 == 1) (sym (div-one n))
bit_of (suc count) n (suc k) h =
    let e : n / 2 ^ suc k ≡ n / 2 / 2 ^ k = ap (λ m. n / m) (pow-succ' 2 k) ∙ sym (div-div-eq-div-mul n 2 (2 ^ k)) in
    let lt : k < count = omega arith in
    rw e (bit_of count (n / 2) k lt)

-- the bits of the first byte, and those of the others
first_byte : (byte : ℕ) (bytes : List ℕ) (q : ℕ) → q < 8 → get_or (bits_of (byte ∷ bytes)) q false ≡ (byte / 2 ^ q % 2 == 1)
first_byte byte bytes q h = get_or-append (bits_of_number 8 byte) (bits_of bytes) false q h ∙ bit_of 8 byte q h

-- the bit at a place of the bytes
pub bit_at_place : (bytes : List ℕ) (q : ℕ) → q < 8 * length bytes → get_or (bits_of bytes) q false ≡ (get_or bytes (q / 8) 0 / 2 ^ (q % 8) % 2 == 1)
bit_at_place [] q h = absurd (omega arith)
bit_at_place (byte ∷ bytes) q h =
    elim (dec_lt q 8) [
      | yes small ↦
          let d : q / 8 ≡ 0 = omega arith in
          let m : q % 8 ≡ q = omega arith in
          rw (d, m) (first_byte byte bytes q small)
      | no large ↦
          let r : 8 ≤ q = omega arith in
          let d : q / 8 ≡ suc ((q - 8) / 8) = omega arith in
          let m : q % 8 ≡ (q - 8) % 8 = omega arith in
          let e : q ≡ 8 + (q - 8) = omega arith in
          let lt : q - 8 < 8 * length bytes = omega arith in
          let g : get_or (bits_of (byte ∷ bytes)) q false ≡ get_or (bits_of bytes) (q - 8) false = ap (λ i. get_or (bits_of (byte ∷ bytes)) i false) e ∙ get_or-append-add (bits_of_number 8 byte) (bits_of bytes) (q - 8) false in
          rw (d, m) (g ∙ bit_at_place bytes (q - 8) lt)
    ]

pub number_of_push : (xs : List Bool) (b : Bool) → number_of (xs ++ b ∷ []) ≡ number_of xs + bit_value b * 2 ^ length xs
number_of_push [] b = omega arith
number_of_push (x ∷ xs) b = omega (arith, number_of_push xs b, ap (λ p. bit_value b * p) (pow-succ' 2 (length xs)))

-- one bit more
pub number_of_more : (bits : List Bool) (place j : ℕ) → place + j < length bits → number_of (take (j + 1) (drop place bits)) ≡ number_of (take j (drop place bits)) + bit_value (get_or bits (place + j) false) * 2 ^ j
number_of_more bits place j within =
    let e : take (j + 1) (drop place bits) ≡ take j (drop place bits) ++ get_or bits (place + j) false ∷ [] = take_more (drop place bits) j false (simp length-drop (omega arith)) ∙ ap (λ b. take j (drop place bits) ++ b ∷ []) (get_or-drop place bits j false) in
    let l : length (take j (drop place bits)) ≡ j = simp (length-take, length-drop) (omega arith) in
    ap number_of e ∙ number_of_push (take j (drop place bits)) (get_or bits (place + j) false) ∙ ap (λ n. number_of (take j (drop place bits)) + bit_value (get_or bits (place + j) false) * 2 ^ n) l

pub odd : (n : ℕ) → bit_value (n % 2 == 1) ≡ n % 2
odd n = grind (arith, nat_tests)

pub length_left : (bytes : List ℕ) (place : ℕ) → length (drop place (bits_of bytes)) ≡ 8 * length bytes - place
length_left bytes place = simp (length-drop, length-bits_of)

-- taking, by whether there are enough
pub take_bits_none : (left : List Bool) (count : ℕ) → length left < count → take_bits count left ≡ None
take_bits_none left count h = ap (λ b. cond b None (Some (number_of (take count left), drop count left))) (lt-ltb (length left) count h)

pub take_bits_some : (left : List Bool) (count : ℕ) → count ≤ length left → take_bits count left ≡ Some (number_of (take count left), drop count left)
take_bits_some left count h = ap (λ b. cond b None (Some (number_of (take count left), drop count left))) (le-ltb (length left) count h)

-- past the last bit nothing is left
pub none_left : (bytes : List ℕ) → drop (8 * length bytes) (bits_of bytes) ≡ []
none_left bytes = drop_all (8 * length bytes) (bits_of bytes) (omega (arith, length-bits_of bytes))

pub used_up : (bytes : List ℕ) (place count : ℕ) → 8 * length bytes - place < count → (take_bits count (drop place (bits_of bytes)) ≡ None) × (drop (8 * length bytes) (bits_of bytes) ≡ [])
used_up bytes place count short =
    (take_bits_none (drop place (bits_of bytes)) count (rw length_left short), none_left bytes)

pub takes : (bytes : List ℕ) (place count : ℕ) → count ≤ 8 * length bytes - place → take_bits count (drop place (bits_of bytes)) ≡ Some (number_of (take count (drop place (bits_of bytes))), drop (place + count) (bits_of bytes))
takes bytes place count within =
    rw (← drop-drop count place (bits_of bytes)) (take_bits_some (drop place (bits_of bytes)) count (rw length_left within))
