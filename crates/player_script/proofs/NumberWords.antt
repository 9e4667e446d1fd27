-- Words that are numbers, as the standard library reads them.
use Rattle.std.proofs.Common.{◌≡◌, ℕ, zero, suc, ◌<◌, ◌^◌, Bool, true, false, not, ◌&&◌, eqb, List, [], ◌∷◌, length, get_or, Err, refl, sym, ap, ◌∙◌, arith}
use Rattle.std.specs.Prelude.{nat_lt}
use Rattle.std.specs.List.{list_all}
use Rattle.std.specs.Char.{is_ascii_digit}
use Rattle.std.specs.Str.{all_ascii_digits, IsAscii, IsUtf8}
use Rattle.std.specs.Str.Parse.{digits_value, ParsesUnsigned}
use Rattle.std.proofs.lemmas.Bool.Decides.{nat_tests}
use Rattle.std.proofs.lemmas.Str.{IsUtf8-from_ascii}
use Rattle.std.proofs.lemmas.Str.Parse.{IsNumeralModel, numerals_by_value, tells_all_ascii_digits, parse_digits}
use Rattle.model_script.specs.Lines.{is_plain, is_number, value_of}
use Rattle.model_script.proofs.Numbers.{plain-is}
use Rattle.player_script.proofs.Splits.{not_true}

own : IsNumeralModel (λ ds. all_ascii_digits ds ≡ true) (digits_value 10)
own = numerals_by_value (λ ds. all_ascii_digits ds ≡ true) tells_all_ascii_digits

by_recursion : (word : List ℕ) → list_all is_ascii_digit word ≡ all_ascii_digits word
by_recursion [] = refl
by_recursion (d ∷ ds) = ap (λ b. is_ascii_digit d && b) (by_recursion ds)

-- digits that do not begin with a zero
pub plain_digits : (word : List ℕ) → 0 < length word → ¬ (get_or word 0 0 ≡ 48) → list_all is_ascii_digit word ≡ is_plain word
plain_digits [] some lead = absurd (omega arith)
plain_digits (d ∷ []) some lead = and_true (is_ascii_digit d)
  where
    and_true : (b : Bool) → (b && true) ≡ b
    and_true true = refl
    and_true false = refl
plain_digits (d ∷ next ∷ ds) some lead =
    let differs : eqb d 48 ≡ false = grind (arith, nat_tests) in
    by_recursion (d ∷ next ∷ ds)
    ∙ ap (λ b. not b && all_ascii_digits (d ∷ next ∷ ds)) (sym differs)

ascii_digits : (word : List ℕ) → all_ascii_digits word ≡ true → IsAscii word
ascii_digits [] e i = omega arith
ascii_digits (d ∷ ds) e zero = let r = tells_all_ascii_digits.parts d ds e in omega (arith, r.0)
ascii_digits (d ∷ ds) e (suc i) = ascii_digits ds (tells_all_ascii_digits.parts d ds e).1 i

-- what is plain is text
pub plain_text : (word : List ℕ) → is_plain word ≡ true → IsUtf8 word
plain_text word e = IsUtf8-from_ascii word (ascii_digits word (plain-is word e).digits)

-- a plain word that is too great
pub is_too_great : {E : Type 0} (word : List ℕ) (err : E) → is_plain word ≡ true → ParsesUnsigned {E = E} 64 10 word (Err err) → is_number word ≡ false
is_too_great {E} word err e h =
    let plain = plain-is word e in
    let wrong = parse_digits own {E = E} 64 word (Err err) h plain.digits in
    let large : nat_lt (value_of word) (2 ^ 64) ≡ false = not_true _ (λ t. let s : value_of word < 2 ^ 64 = grind (arith, nat_tests) in wrong (plain.some, s)) in
    ap (λ b. b && nat_lt (value_of word) (2 ^ 64)) e ∙ large
