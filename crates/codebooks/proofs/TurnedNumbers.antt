-- Numbers whose bits are turned round, and the numbers of a table that begin with a codeword.
use Rattle.std.proofs.Common.{◌≡◌, ℕ, zero, suc, ◌+◌, ◌-◌, ◌*◌, ◌/◌, ◌%◌, ◌^◌, ◌<◌, ◌≤◌, ◌≢◌, List, length, get_or, set, true, inl, inr, refl, ap, sym, ◌∙◌, subst, arith, get_or-set_other, get_or-set_same}
use Rattle.std.proofs.lemmas.Bool.{cases_lt}
use Rattle.std.proofs.lemmas.Nat.{pow_pos, pow-add, mul-add-lt}
use Rattle.std.proofs.Math.Nat.{pow-succ', mul-le-mul_right}
use Rattle.std.proofs.Math.Pow.{pow_mono}
use Rattle.std.proofs.Math.ListN.{length-set}
use Rattle.std.specs.Int.{reverse_bits_onto}
use Rattle.model_setup.specs.declared.book.Word.{Word}
use Rattle.model_setup.specs.Codewords.{size_of, IsPlaced}
use Rattle.model_setup.proofs.Sizes.{size-all}
use Rattle.model_setup.proofs.Digits.{Within}
use Rattle.codebooks.specs.declared.word_table.Place.{Place}
use Rattle.codebooks.specs.Free.{claims}
use Rattle.codebooks.specs.WordTables.{IsPlaceOf, ArePlaces}
use Rattle.codebooks.proofs.Looks.{within_claims}

-- they stand behind those that are there
pub turned_within : (count n a : ℕ) → Within (a * 2 ^ count) (2 ^ count) (reverse_bits_onto count n a)
unfolding reverse_bits_onto
turned_within zero n a = (omega arith, omega arith)
turned_within (suc count) n a =
    let w : Within ((a * 2 + n % 2) * 2 ^ count) (2 ^ count) (reverse_bits_onto count (n / 2) (a * 2 + n % 2)) = turned_within count (n / 2) (a * 2 + n % 2) in
    let low = w.0 in
    let high = w.1 in
    let p = pow-succ' 2 count in
    let q = ap (λ p. a * p) (pow-succ' 2 count) in
    elim (cases_lt (n % 2) 1) [
      | inl less ↦
          let z : n % 2 ≡ 0 = omega arith in
          let t : (n % 2) * 2 ^ count ≡ 0 = rw z (omega arith) in
          (omega arith, omega arith)
      | inr more ↦
          let z : n % 2 ≡ 1 = omega arith in
          let t : (n % 2) * 2 ^ count ≡ 2 ^ count = rw z (omega arith) in
          (omega arith, omega arith)
    ]

pub turned_onto : (count n a : ℕ) → reverse_bits_onto count n a ≡ a * 2 ^ count + reverse_bits_onto count n 0
unfolding reverse_bits_onto
turned_onto zero n a = omega arith
turned_onto (suc count) n a =
    let e = turned_onto count (n / 2) (a * 2 + n % 2) in
    let f = turned_onto count (n / 2) (0 * 2 + n % 2) in
    omega (arith, e, f, ap (λ p. a * p) (pow-succ' 2 count))

-- the bits of a second number stand behind those of the first
pub turned_behind : (front behind count n m a : ℕ) → front + behind ≡ count → n < 2 ^ front → reverse_bits_onto count (n + m * 2 ^ front) a ≡ reverse_bits_onto behind m (reverse_bits_onto front n a)
unfolding reverse_bits_onto
turned_behind zero behind count n m a e l =
    let f : behind ≡ count = omega arith in
    let g : n + m * 2 ^ 0 ≡ m = omega arith in
    rw (f, g) refl
turned_behind (suc front) behind zero n m a e l = absurd (omega arith)
turned_behind (suc front) behind (suc count) n m a e l =
    let q = ap (λ p. m * p) (pow-succ' 2 front) in
    let p = pow-succ' 2 front in
    let h : (n + m * 2 ^ suc front) / 2 ≡ n / 2 + m * 2 ^ front = omega arith in
    let r : (n + m * 2 ^ suc front) % 2 ≡ n % 2 = omega arith in
    rw (h, r) (turned_behind front behind count (n / 2) m (a * 2 + n % 2) (omega arith) (omega arith))

turned_last : (count n bit : ℕ) → n < 2 ^ count → bit < 2 → reverse_bits_onto (suc count) (n + bit * 2 ^ count) 0 ≡ reverse_bits_onto count n 0 * 2 + bit
unfolding reverse_bits_onto
turned_last count n bit l b =
    let e : reverse_bits_onto (suc count) (n + bit * 2 ^ count) 0 ≡ reverse_bits_onto count n 0 * 2 + bit % 2 = turned_behind count 1 (suc count) n bit 0 (omega arith) l in
    e ∙ omega arith

-- turned round twice
turned_twice : (count n bit : ℕ) → n < 2 ^ count → bit < 2 → reverse_bits_onto count (reverse_bits_onto count n 0) 0 ≡ n → reverse_bits_onto (suc count) (reverse_bits_onto (suc count) (n + bit * 2 ^ count) 0) 0 ≡ n + bit * 2 ^ count
unfolding reverse_bits_onto
turned_twice count n bit l b back =
    let x = reverse_bits_onto count n 0 in
    let d : (x * 2 + bit) / 2 ≡ x = omega arith in
    let m : (x * 2 + bit) % 2 ≡ bit = omega arith in
    let e : reverse_bits_onto (suc count) (x * 2 + bit) 0 ≡ reverse_bits_onto count x (0 * 2 + bit) = rw (d, m) refl in
    let f : reverse_bits_onto count x (0 * 2 + bit) ≡ (0 * 2 + bit) * 2 ^ count + reverse_bits_onto count x 0 = turned_onto count x (0 * 2 + bit) in
    ap (λ y. reverse_bits_onto (suc count) y 0) (turned_last count n bit l b) ∙ e ∙ f ∙ omega (arith, back)

pub turned_back : (count n : ℕ) → n < 2 ^ count → reverse_bits_onto count (reverse_bits_onto count n 0) 0 ≡ n
unfolding reverse_bits_onto
turned_back zero n l = omega arith
turned_back (suc count) n l =
    let p = pow-succ' 2 count in
    elim (cases_lt n (2 ^ count)) [
      | inl low ↦
          let e : n + 0 * 2 ^ count ≡ n = omega arith in
          subst (λ (m : ℕ). reverse_bits_onto (suc count) (reverse_bits_onto (suc count) m 0) 0 ≡ m) e (turned_twice count n 0 low (omega arith) (turned_back count n low))
      | inr high ↦
          let low : n - 2 ^ count < 2 ^ count = omega arith in
          let e : n - 2 ^ count + 1 * 2 ^ count ≡ n = omega arith in
          subst (λ (m : ℕ). reverse_bits_onto (suc count) (reverse_bits_onto (suc count) m 0) 0 ≡ m) e (turned_twice count (n - 2 ^ count) 1 low (omega arith) (turned_back count (n - 2 ^ count) low))
    ]

turned_zero : (count : ℕ) → reverse_bits_onto count 0 0 ≡ 0
unfolding reverse_bits_onto
turned_zero zero = refl
turned_zero (suc count) = turned_zero count

-- a multiple of a power turned round has as many bits fewer
turned_multiple : (size len count k : ℕ) → size + len ≡ count → reverse_bits_onto count (k * 2 ^ size) 0 ≡ reverse_bits_onto len k 0
turned_multiple size len count k e =
    let z : 0 + k * 2 ^ size ≡ k * 2 ^ size = omega arith in
    sym (ap (λ n. reverse_bits_onto count n 0) z) ∙ turned_behind size len count 0 k 0 e (pow_pos size) ∙ ap (λ a. reverse_bits_onto len k a) (turned_zero size)

-- the first number that begins with a codeword, the first of its bits the lowest
pub first_below : (size len count k : ℕ) → size + len ≡ count → reverse_bits_onto count (k * 2 ^ size) 0 < 2 ^ len
first_below size len count k e =
    let w = turned_within len k 0 in
    rw (turned_multiple size len count k e) (omega (arith, w.1))

-- each that begins with it is, turned round, one of the word's
pub number_within : (size len count k m : ℕ) → size + len ≡ count → k < 2 ^ len → Within (k * 2 ^ size) (2 ^ size) (reverse_bits_onto count (reverse_bits_onto count (k * 2 ^ size) 0 + m * 2 ^ len) 0)
number_within size len count k m e l =
    let f = first_below size len count k e in
    let b : reverse_bits_onto len (reverse_bits_onto count (k * 2 ^ size) 0) 0 ≡ k = ap (λ n. reverse_bits_onto len n 0) (turned_multiple size len count k e) ∙ turned_back len k l in
    rw (turned_behind len size count (reverse_bits_onto count (k * 2 ^ size) 0) m 0 (omega arith) f, b) (turned_within size m k)

-- a word's first number in a table, turned round, is no longer than its codeword
pub word_first : (w : Word) → IsPlaced w → reverse_bits_onto 32 w.start 0 < 2 ^ w.len
unfolding size_of
word_first w p =
    let l = p.len in
    let e : w.start ≡ p.at.0 * 2 ^ (32 - w.len) = p.at.1 in
    rw e (first_below (32 - w.len) w.len 32 p.at.0 (omega arith))

-- a word's numbers in a table are within it
pub number_below : (len width first i : ℕ) → len ≤ width → first < 2 ^ len → i < 2 ^ (width - len) → first + i * 2 ^ len < 2 ^ width
number_below len width first i small low high =
    let p : 2 ^ width ≡ 2 ^ len * 2 ^ (width - len) = ap (λ n. 2 ^ n) (omega arith) ∙ pow-add 2 len (width - len) in
    let q : i * 2 ^ len + first < 2 ^ len * 2 ^ (width - len) = mul-add-lt i (2 ^ len) first (2 ^ (width - len)) high low in
    omega arith

multiplier_below : (k n q : ℕ) → k * n + n ≤ q * n → 0 < n → k < q
multiplier_below k n q le some = elim (cases_lt k q) [
  | inl less ↦ less
  | inr more ↦ let m : q * n ≤ k * n = mul-le-mul_right n more in absurd (omega arith)
]

-- and turned round, they are the word's
pub number_claimed : (w : Word) (i : ℕ) → IsPlaced w → claims (reverse_bits_onto 32 (reverse_bits_onto 32 w.start 0 + i * 2 ^ w.len) 0) w ≡ true
unfolding size_of
number_claimed w i p =
    let l = p.len in
    let k = p.at.0 in
    let e : w.start ≡ k * 2 ^ (32 - w.len) = p.at.1 in
    let inside : w.start + 2 ^ (32 - w.len) ≤ 2 ^ 32 = p.within in
    let all : 2 ^ w.len * 2 ^ (32 - w.len) ≡ 2 ^ 32 = size-all w.len l in
    let below : k < 2 ^ w.len = multiplier_below k (2 ^ (32 - w.len)) (2 ^ w.len) (omega arith) (pow_pos (32 - w.len)) in
    let f : Within (k * 2 ^ (32 - w.len)) (2 ^ (32 - w.len)) (reverse_bits_onto 32 (reverse_bits_onto 32 (k * 2 ^ (32 - w.len)) 0 + i * 2 ^ w.len) 0) = number_within (32 - w.len) w.len 32 k i (omega arith) below in
    within_claims (reverse_bits_onto 32 (reverse_bits_onto 32 w.start 0 + i * 2 ^ w.len) 0) w (subst (λ (s : ℕ). Within s (2 ^ (32 - w.len)) (reverse_bits_onto 32 (reverse_bits_onto 32 s 0 + i * 2 ^ w.len) 0)) (sym e) f)

-- 1 shifted by so few bits
shifted : (n : ℕ) → n ≤ 10 → 1 * 2 ^ n % 18446744073709551616 ≡ 2 ^ n
shifted n few = let p : 2 ^ n ≤ 2 ^ 10 = pow_mono few in omega arith

-- the same as the code writes them
pub place_below : (w : Word) (width len first i : ℕ) → IsPlaced w → len ≡ w.len → len ≤ width → width ≤ 10 → first ≡ reverse_bits_onto 32 w.start 0 → i < 1 * 2 ^ (width - len) % 18446744073709551616
    → first + i * (1 * 2 ^ len % 18446744073709551616) < 2 ^ width
place_below w width len first i p is_len short few is_first turn =
    let most : len ≤ 10 = omega arith in
    let f : reverse_bits_onto 32 w.start 0 < 2 ^ w.len = word_first w p in
    let low : first < 2 ^ len = rw (is_first, is_len) f in
    let high : i < 2 ^ (width - len) = rw (shifted (width - len) (omega arith)) at turn in
    rw (shifted len most) (number_below len width first i short low high)

pub place_claimed : (w : Word) (len first i : ℕ) → IsPlaced w → len ≡ w.len → len ≤ 10 → first ≡ reverse_bits_onto 32 w.start 0
    → claims (reverse_bits_onto 32 (first + i * (1 * 2 ^ len % 18446744073709551616)) 0) w ≡ true
place_claimed w len first i p is_len most is_first = rw (shifted len most, is_first, is_len) (number_claimed w i p)

-- a place is written
pub places_set : (words : List Word) (width i : ℕ) (places : List Place) (place : Place) → ArePlaces words width places → i < length places → IsPlaceOf words width (reverse_bits_onto 32 i 0) place → ArePlaces words width (set places i place)
places_set words width i places place are within here = record {
  count = length-set places i place ∙ are.count;
  each = λ k d l.
      let other : k ≢ i → IsPlaceOf words width (reverse_bits_onto 32 k 0) (get_or (set places i place) k d) = λ differs. rw (get_or-set_other places i k place d differs) (are.each k d (rw length-set at l)) in
      elim (cases_lt k i) [
        | inl less ↦ other (λ same. omega arith)
        | inr more ↦ elim (cases_lt i k) [
          | inl less ↦ other (λ same. omega arith)
          | inr least ↦
              let same : k ≡ i = omega arith in
              rw (same, get_or-set_same places i place d within) here
        ]
      ];
}
