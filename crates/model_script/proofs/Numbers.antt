-- Which words are numbers.
use Rattle.std.proofs.Common.{◌≡◌, ℕ, zero, suc, ◌<◌, ◌^◌, Bool, true, false, not, ◌&&◌, eqb, List, [], ◌∷◌, length, get_or, refl, sym, ap, ◌∙◌, arith}
use Rattle.std.specs.Prelude.{nat_lt}
use Rattle.std.specs.Char.{is_ascii_digit}
use Rattle.std.specs.Str.{all_ascii_digits}
use Rattle.std.specs.Str.Parse.{digits_value}
use Rattle.std.specs.Fmt.{decimal}
use Rattle.std.proofs.lemmas.Bool.Decides.{nat_tests}
use Rattle.std.proofs.lemmas.Str.Parse.{IsNumeralModel, numerals_by_value, tells_all_ascii_digits}
use Rattle.std.proofs.lemmas.Fmt.{decimal-digits_value, digits_decimal, digits_value-decimal, decimal_nonempty, decimal_digit, first_decimal}
use Rattle.model_script.specs.Lines.{is_plain, is_number, value_of}
use Rattle.model_script.specs.Laws.{NumbersAreWritten}

own : IsNumeralModel (λ ds. all_ascii_digits ds ≡ true) (digits_value 10)
own = numerals_by_value (λ ds. all_ascii_digits ds ≡ true) tells_all_ascii_digits

both : (a b : Bool) → (a && b) ≡ true → (a ≡ true) × (b ≡ true)
both true b e = (refl, e)
both false b e = cc

with_true : (a : Bool) → (a && true) ≡ a
with_true true = refl
with_true false = refl

-- what is plain are digits, one at least, and no leading zero
pub record IsPlain (word : List ℕ) : Type 0 where
  pub digits : all_ascii_digits word ≡ true
  pub some : 0 < length word
  pub lead : get_or word 0 0 ≡ 48 → length word ≡ 1

pub plain-is : (word : List ℕ) → is_plain word ≡ true → IsPlain word
plain-is [] e = cc
plain-is (d ∷ []) e = record { digits = with_true (is_ascii_digit d) ∙ e; some = omega arith; lead = λ _. refl }
plain-is (d ∷ next ∷ ds) e =
    let parts = both (not (eqb d 48)) (all_ascii_digits (d ∷ next ∷ ds)) e in record {
      digits = parts.1;
      some = omega arith;
      lead = λ zero_first. let other = parts.0 in grind (arith, nat_tests);
    }

pub is-plain : (word : List ℕ) → IsPlain word → is_plain word ≡ true
is-plain [] p = absurd (omega (arith, p.some))
is-plain (d ∷ []) p = sym (with_true (is_ascii_digit d)) ∙ p.digits
is-plain (d ∷ next ∷ ds) p =
    let other : ¬ (d ≡ 48) = λ e. let one = p.lead e in omega (arith, one) in
    let differs : eqb d 48 ≡ false = grind (arith, nat_tests) in
    ap (λ b. not b && all_ascii_digits (d ∷ next ∷ ds)) differs ∙ p.digits

zero_first : (n : ℕ) → n < 2 ^ 64 → get_or (decimal n) 0 0 ≡ 48 → length (decimal n) ≡ 1
zero_first zero h e = ap length (decimal_digit 0 (omega arith))
zero_first (suc n) h e = absurd (omega (arith, first_decimal (suc n) (omega arith) h))

pub decimal-is_plain : (n : ℕ) → n < 2 ^ 64 → IsPlain (decimal n)
decimal-is_plain n h = record { digits = digits_decimal own n h; some = decimal_nonempty n h; lead = zero_first n h }

pub value_of-decimal : (n : ℕ) → n < 2 ^ 64 → value_of (decimal n) ≡ n
value_of-decimal n h = digits_value-decimal own n h

-- how a number is written is a number
pub is_number-decimal : (n : ℕ) → n < 2 ^ 64 → is_number (decimal n) ≡ true
is_number-decimal n h =
    let small : nat_lt n (2 ^ 64) ≡ true = grind (arith, nat_tests) in
    ap (λ b. b && nat_lt (value_of (decimal n)) (2 ^ 64)) (is-plain (decimal n) (decimal-is_plain n h))
    ∙ ap (λ m. nat_lt m (2 ^ 64)) (value_of-decimal n h) ∙ small

to_written : (word : List ℕ) → is_number word ≡ true → (value_of word < 2 ^ 64) × (word ≡ decimal (value_of word))
to_written word e =
    let parts = both (is_plain word) (nat_lt (value_of word) (2 ^ 64)) e in
    let plain = plain-is word parts.0 in
    let fits = parts.1 in
    let small : value_of word < 2 ^ 64 = grind (arith, nat_tests) in
    (small, sym (decimal-digits_value own word plain.digits plain.some plain.lead small))

pub numbers_are_written : NumbersAreWritten
numbers_are_written word =
    (λ e. to_written word e, λ w. ap is_number w.1 ∙ is_number-decimal (value_of word) w.0)
