-- Words where there should be none.
use Rattle.std.proofs.Common.{◌≡◌, ℕ, ◌<◌, Bool, true, false, not, cond, List, [], ◌∷◌, length, eqb, Err, ap, arith}
use Rattle.std.specs.List.{list_all, slice_split, onto_first}
use Rattle.std.proofs.lemmas.Bool.Decides.{nat_tests}
use Rattle.model_script.specs.declared.fault.LineCause.TheVariants as causes
use Rattle.model_script.specs.Lines.{when, first_some, words_of, is_number}
use Rattle.player_script.specs.Words.{values_unless, numbers_of}

by_test : (b : Bool) (x : ℕ) (parts : List (List ℕ)) → 0 < length (cond b ([] ∷ parts) (onto_first x parts))
by_test true x parts = omega arith
by_test false x [] = omega arith
by_test false x (part ∷ parts) = omega arith

-- a list is split into one part at least
parted : (p : ℕ → Bool) (xs : List ℕ) → 0 < length (slice_split p xs)
parted p [] = omega arith
parted p (x ∷ xs) = by_test (p x) x (slice_split p xs)

-- a line has a word at least, so it is not without words
pub has_words : (line : List ℕ) → numbers_of 0 (words_of line) ≡ Err causes.Count
has_words line =
    let words = words_of line in
    let some = parted (λ b. eqb b 32) line in
    let e : eqb (length words) 0 ≡ false = grind (arith, nat_tests) in
    ap (λ b. values_unless words (first_some (when (not b) causes.Count ∷ when (not (list_all is_number words)) causes.Number ∷ []))) e
