-- The xor of what a register's bits come to, one bit at a time.
use Rattle.std.proofs.Common.{◌≡◌, ℕ, zero, suc, ◌+◌, ◌*◌, ◌/◌, ◌%◌, ◌^◌, ◌<◌, ◌≤◌, cond, nat_eq, List, [], ◌∷◌, length, drop, get_or, sym, ap, ◌∙◌, arith}
use Rattle.std.specs.Prelude.{bit_xor}
use Rattle.std.proofs.Math.Nat.{add-mul, zero-mul}
use Rattle.std.proofs.lemmas.Nat.{pow-add, mul-add-lt}
use Rattle.std.proofs.Math.Pow.{pow_pos}
use Rattle.std.proofs.lemmas.List.{at_drop_more, at_drop_all}
use lib.Bits.{xor_assoc, xor_comm, xor_zero_r, xor_shifted}
use Rattle.ogg_pages.specs.Leaps.{xor_of_bits}
use Rattle.ogg_pages.proofs.Zeros.{after, after-xor, after-none}

pub bit_more : (words : List ℕ) (i sum rest total : ℕ) → i < length words → bit_xor sum (xor_of_bits rest (drop i words)) ≡ total
    → bit_xor (bit_xor sum (cond (nat_eq (rest % 2) 1) (get_or words i 0) 0)) (xor_of_bits (rest / 2) (drop (i + 1) words)) ≡ total
unfolding xor_of_bits
bit_more words i sum rest total lt h =
    let word = cond (nat_eq (rest % 2) 1) (get_or words i 0) 0 in
    let one : bit_xor sum (xor_of_bits rest (drop i words)) ≡ bit_xor sum (bit_xor word (xor_of_bits (rest / 2) (drop (i + 1) words))) =
    at_drop_more (λ (left : List ℕ). bit_xor sum (xor_of_bits rest left)) words i 0 lt in
    xor_assoc sum word (xor_of_bits (rest / 2) (drop (i + 1) words)) ∙ sym one ∙ h

pub bits_all : (words : List ℕ) (i sum rest total : ℕ) → length words ≤ i → bit_xor sum (xor_of_bits rest (drop i words)) ≡ total → sum ≡ total
unfolding xor_of_bits
bits_all words i sum rest total le h =
    let one : bit_xor sum (xor_of_bits rest (drop i words)) ≡ bit_xor sum 0 = at_drop_all (λ (left : List ℕ). bit_xor sum (xor_of_bits rest left)) words i le in
    sym (xor_zero_r sum) ∙ sym one ∙ h

pub ruleset bit_steps = (bit_more, bits_all)

-- a number of bits that stand from a place on: its lowest bit, and the others
parts : (r i : ℕ) → r / 2 * 2 ^ (i + 1) + r % 2 * 2 ^ i ≡ r * 2 ^ i
parts r i =
    let whole : r / 2 * 2 + r % 2 ≡ r = omega arith in
    let next : 2 ^ (i + 1) ≡ 2 ^ i * 2 = pow-add 2 i 1 in
    rw next (sym (ap (λ n. n * 2 ^ i) (sym whole) ∙ add-mul (r / 2 * 2) (r % 2) (2 ^ i) ∙ ap (λ n. n + r % 2 * 2 ^ i) (grind arith)))

parts_apart : (r i : ℕ) → bit_xor (r % 2 * 2 ^ i) (r / 2 * 2 ^ (i + 1)) ≡ r * 2 ^ i
parts_apart r i =
    let next : 2 ^ (i + 1) ≡ 2 ^ i * 2 = pow-add 2 i 1 in
    let bit : r % 2 < 2 = omega arith in
    let low : r % 2 * 2 ^ i < 2 ^ (i + 1) = omega (arith, next, mul-add-lt (r % 2) (2 ^ i) 0 2 bit (pow_pos i)) in
    xor_comm (r % 2 * 2 ^ i) (r / 2 * 2 ^ (i + 1)) ∙ xor_shifted (r / 2) (i + 1) (r % 2 * 2 ^ i) low ∙ parts r i

lowest : (count unit word bit : ℕ) → bit < 2 → word ≡ after count unit → cond (nat_eq bit 1) word 0 ≡ after count (bit * unit)
lowest count unit word zero lt e = sym (after-none count) ∙ ap (after count) (omega arith)
lowest count unit word (suc zero) lt e = e ∙ ap (after count) (omega arith)
lowest count unit word (suc (suc bit)) lt e = absurd (omega arith)

-- words that say what the bits from one on come to give what all of these come to together
from_bit : (i r count : ℕ) (words : List ℕ) → ((j : ℕ) → j < length words → get_or words j 0 ≡ after count (2 ^ (i + j)))
    → r < 2 ^ length words → r * 2 ^ i < 2 ^ 32 → xor_of_bits r words ≡ after count (r * 2 ^ i)
unfolding xor_of_bits
from_bit i r count [] at few fits =
    let none : r * 2 ^ i ≡ 0 = let no_bit : r ≡ 0 = omega arith in rw no_bit (zero-mul (2 ^ i)) in
    sym (after-none count) ∙ ap (after count) (sym none)
from_bit i r count (word ∷ words) at few fits =
    let both = parts r i in
    let low : r % 2 * 2 ^ i < 2 ^ 32 = omega arith in
    let high : r / 2 * 2 ^ (i + 1) < 2 ^ 32 = omega arith in
    let long : 2 ^ suc (length words) ≡ 2 ^ length words * 2 = ap (λ n. 2 ^ n) (omega arith) ∙ pow-add 2 (length words) 1 in
    let first : cond (nat_eq (r % 2) 1) word 0 ≡ after count (r % 2 * 2 ^ i) = lowest count (2 ^ i) word (r % 2) (omega arith) (at 0 (omega arith) ∙ ap (λ k. after count (2 ^ k)) (omega arith)) in
    let others : xor_of_bits (r / 2) words ≡ after count (r / 2 * 2 ^ (i + 1)) =
    from_bit (i + 1) (r / 2) count words (λ j lt. at (suc j) (omega arith) ∙ ap (λ k. after count (2 ^ k)) (omega arith)) (omega arith) high in
    rw (first, others) (sym (after-xor count (r % 2 * 2 ^ i) (r / 2 * 2 ^ (i + 1)) low high) ∙ ap (after count) (parts_apart r i))

-- in these words each bit of a register stands as it is after so many bytes 0
pub record IsRow (count : ℕ) (row : List ℕ) : Type 0 where
  pub long : length row ≡ 32
  pub at : (i : ℕ) → i < 32 → get_or row i 0 ≡ after count (2 ^ i)

-- so they bring any register behind as many
pub row_law : (count r : ℕ) (row : List ℕ) → IsRow count row → r < 2 ^ 32 → xor_of_bits r row ≡ after count r
row_law count r row is lt =
    let same : r * 2 ^ 0 ≡ r = omega arith in
    from_bit 0 r count row (λ j fits. is.at j (omega (arith, is.long)) ∙ ap (λ k. after count (2 ^ k)) (omega arith)) (rw is.long lt) (omega arith) ∙ ap (after count) same
