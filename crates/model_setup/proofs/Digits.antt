-- Bits begin with a word's digits exactly where the number that they begin is one of the word's.
use Rattle.std.proofs.Common.{◌≡◌, ℕ, zero, suc, ◌+◌, ◌-◌, ◌*◌, ◌/◌, ◌%◌, ◌^◌, ◌<◌, ◌≤◌, ◌==◌, List, [], ◌∷◌, length, Bool, true, false, inl, inr, refl, ap, sym, ◌∙◌, arith}
use Rattle.std.proofs.lemmas.Bool.{and_parts, and_from, false≢true, false_from_ne_true}
use Rattle.std.proofs.lemmas.Bool.Decides.{nat_tests}
use Rattle.std.proofs.lemmas.Nat.{pow_pos, pow-add, mod-pow-add, mod_below}
use Rattle.std.proofs.Math.Nat.{mod-eq_of_lt, mul-mod_left}
use Rattle.std.specs.Int.{bit_at}
use Rattle.model_bits.specs.Bits.{bit_value}
use Rattle.model_setup.specs.declared.book.Word.{Word}
use Rattle.model_setup.specs.Codewords.{size_of, high_digits, digits_of, same_bit, begins_with, begins, look_high}
use Rattle.model_setup.specs.Codewords.{IsPlaced, AreApart}
use Rattle.model_setup.proofs.Sizes.{multiple-lt}

abbrev pub Within : ℕ → ℕ → ℕ → Type 0
Within start size n = (start ≤ n) × (n < start + size)

pub bit_below : (b : Bool) → bit_value b < 2
bit_below true = omega arith
bit_below false = omega arith

pub look_below : (count : ℕ) (left : List Bool) → look_high count left < 2 ^ count
unfolding look_high
look_below zero left = omega arith
look_below (suc count) [] = pow_pos (suc count)
look_below (suc count) (true ∷ left) = let h = look_below count left in let p = pow_pos count in omega (arith, pow-add 2 1 count)
look_below (suc count) (false ∷ left) = let h = look_below count left in let p = pow_pos count in omega (arith, pow-add 2 1 count)

odd : (n : ℕ) → bit_value (n % 2 == 1) ≡ n % 2
odd n = grind (arith, nat_tests)

-- the lowest bits of a number: the highest of them, and those below
lower : (count n : ℕ) → n % 2 ^ suc count ≡ bit_value (bit_at n count == 1) * 2 ^ count + n % 2 ^ count
lower count n =
    let e : suc count ≡ 1 + count = omega arith in
    let o : bit_value (bit_at n count == 1) ≡ n / 2 ^ count % 2 = odd (n / 2 ^ count) in
    ap (λ m. n % 2 ^ m) e ∙ mod-pow-add n 1 count ∙ ap (λ b. b * 2 ^ count + n % 2 ^ count) (sym o)

-- the lowest bits of a multiple of 2 ^ w leave room for 2 ^ w
low_fits : (len w count n k : ℕ) → len + w ≡ count → n ≡ k * 2 ^ w → n % 2 ^ count + 2 ^ w ≤ 2 ^ count
low_fits len w count n k e m =
    let none : n % 2 ^ w ≡ 0 = ap (λ x. x % 2 ^ w) m ∙ mul-mod_left k (2 ^ w) in
    let q = n / 2 ^ w % 2 ^ len in
    let low : n % 2 ^ (len + w) ≡ q * 2 ^ w + n % 2 ^ w = mod-pow-add n len w in
    let below : q < 2 ^ len = mod_below (n / 2 ^ w) (2 ^ len) (pow_pos len) in
    let fits : q * 2 ^ w + 2 ^ w ≤ 2 ^ len * 2 ^ w = multiple-lt q (2 ^ len) (2 ^ w) below in
    let p : 2 ^ (len + w) ≡ 2 ^ len * 2 ^ w = pow-add 2 len w in
    rw (← e) (omega arith)

-- one digit and one bit more
one_to : (d b : Bool) (top low size n : ℕ) → same_bit d b ≡ true → Within low size n → Within (bit_value d * top + low) size (bit_value b * top + n)
one_to true true top low size n h w = (omega arith, omega arith)
one_to false false top low size n h w = (omega arith, omega arith)
one_to true false top low size n h w = absurd (false≢true h)
one_to false true top low size n h w = absurd (false≢true h)

one_from : (d b : Bool) (top low size n : ℕ) → low + size ≤ top → n < top → Within (bit_value d * top + low) size (bit_value b * top + n) → (same_bit d b ≡ true) × Within low size n
one_from true true top low size n f l w = (refl, (omega arith, omega arith))
one_from false false top low size n f l w = (refl, (omega arith, omega arith))
one_from true false top low size n f l w = absurd (omega arith)
one_from false true top low size n f l w = absurd (omega arith)

digits_to : (len w count n k : ℕ) (left : List Bool) → len + w ≡ count → n ≡ k * 2 ^ w → begins_with (high_digits len count n) left ≡ true → (len ≤ length left) × Within (n % 2 ^ count) (2 ^ w) (look_high count left)
unfolding begins_with look_high
digits_to zero w count n k left e m h =
    let f : count ≡ w = omega arith in
    let none : n % 2 ^ w ≡ 0 = ap (λ x. x % 2 ^ w) m ∙ mul-mod_left k (2 ^ w) in
    let l : look_high w left < 2 ^ w = look_below w left in
    rw f (omega arith, (omega arith, omega arith))
digits_to (suc len) w zero n k left e m h = absurd (omega arith)
digits_to (suc len) w (suc count) n k [] e m h = absurd (false≢true h)
digits_to (suc len) w (suc count) n k (bit ∷ left) e m h =
    let p = and_parts (same_bit (bit_at n count == 1) bit) (begins_with (high_digits len count n) left) h in
    let r = digits_to len w count n k left (omega arith) m p.1 in
    let o = one_to (bit_at n count == 1) bit (2 ^ count) (n % 2 ^ count) (2 ^ w) (look_high count left) p.0 r.1 in
    let l : len ≤ length left = r.0 in
    rw (lower count n) (omega arith, o)

digits_from : (len w count n k : ℕ) (left : List Bool) → len + w ≡ count → n ≡ k * 2 ^ w → len ≤ length left → Within (n % 2 ^ count) (2 ^ w) (look_high count left) → begins_with (high_digits len count n) left ≡ true
unfolding begins_with look_high
digits_from zero w count n k left e m l h = refl
digits_from (suc len) w zero n k left e m l h = absurd (omega arith)
digits_from (suc len) w (suc count) n k [] e m l h = absurd (omega arith)
digits_from (suc len) w (suc count) n k (bit ∷ left) e m l h =
    let f : len + w ≡ count = omega arith in
    let g : Within (bit_value (bit_at n count == 1) * 2 ^ count + n % 2 ^ count) (2 ^ w) (bit_value bit * 2 ^ count + look_high count left) = rw (lower count n) at h in
    let o = one_from (bit_at n count == 1) bit (2 ^ count) (n % 2 ^ count) (2 ^ w) (look_high count left) (low_fits len w count n k f m) (look_below count left) g in
    and_from (same_bit (bit_at n count == 1) bit) (begins_with (high_digits len count n) left) o.0 (digits_from len w count n k left f m (omega arith) o.1)

-- the law: bits begin with a word exactly where they are enough, and the number of the next 32, with zeros behind, is one of the word's
pub begins_to : (w : Word) (left : List Bool) → IsPlaced w → begins left w ≡ true → (w.len ≤ length left) × Within w.start (size_of w.len) (look_high 32 left)
unfolding begins digits_of size_of
begins_to w left p h =
    let small = p.len in
    let within : w.start + 2 ^ (32 - w.len) ≤ 2 ^ 32 = p.within in
    let pos : 0 < 2 ^ (32 - w.len) = pow_pos (32 - w.len) in
    let less : w.start < 2 ^ 32 = omega arith in
    let e : w.start % 2 ^ 32 ≡ w.start = mod-eq_of_lt less in
    rw e at (digits_to w.len (32 - w.len) 32 w.start p.at.0 left (omega arith) p.at.1 h)

pub begins_from : (w : Word) (left : List Bool) → IsPlaced w → w.len ≤ length left → Within w.start (size_of w.len) (look_high 32 left) → begins left w ≡ true
unfolding begins digits_of size_of
begins_from w left p l h =
    let small = p.len in
    let within : w.start + 2 ^ (32 - w.len) ≤ 2 ^ 32 = p.within in
    let pos : 0 < 2 ^ (32 - w.len) = pow_pos (32 - w.len) in
    let less : w.start < 2 ^ 32 = omega arith in
    let e : w.start % 2 ^ 32 ≡ w.start = mod-eq_of_lt less in
    digits_from w.len (32 - w.len) 32 w.start p.at.0 left (omega arith) p.at.1 l (rw e h)

-- no bits begin with two words that are apart
pub not_both : (v w : Word) (left : List Bool) → IsPlaced v → IsPlaced w → AreApart v w → begins left v ≡ true → begins left w ≡ true → ⊥
not_both v w left p q (inl before) a b =
    let f = begins_to v left p a in
    let g = begins_to w left q b in
    omega arith
not_both v w left p q (inr behind) a b =
    let f = begins_to v left p a in
    let g = begins_to w left q b in
    omega arith

same-self : (b : Bool) → same_bit b b ≡ true
same-self true = refl
same-self false = refl

begins-self : (digits : List Bool) → begins_with digits digits ≡ true
unfolding begins_with
begins-self [] = refl
begins-self (digit ∷ digits) = and_from (same_bit digit digit) (begins_with digits digits) (same-self digit) (begins-self digits)

-- no codeword begins another
pub never_begins : (v w : Word) → IsPlaced v → IsPlaced w → AreApart v w → begins_with (digits_of v) (digits_of w) ≡ false
unfolding begins
never_begins v w p q apart = false_from_ne_true (begins_with (digits_of v) (digits_of w)) (λ t. not_both v w (digits_of w) p q apart t (begins-self (digits_of w)))
