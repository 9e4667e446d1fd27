-- The words of lengths, one length after the other.
use Rattle.std.proofs.Common.{◌≡◌, ℕ, ◌+◌, ◌++◌, List, [], ◌∷◌, Option, Some, None, Ok, Err, refl, ap, sym}
use Rattle.std.proofs.lemmas.Option.{same_Some, none-some}
use Rattle.std.specs.Prelude.{option_and_then}
use Rattle.std.specs.Option.{ok_or}
use Rattle.model_setup.specs.declared.book.BookFault.{BookFault}
use Rattle.model_setup.specs.declared.book.BookFault.TheVariants.{Tree}
use Rattle.model_setup.specs.declared.book.Word.{Word}
use Rattle.model_setup.specs.Codewords.{first_free, words_behind}

abbrev with : List Word → ℕ → ℕ → ℕ → List Word
with earlier entry len start = earlier ++ record { entry = entry; len = len; start = start } ∷ []

module _ (earlier words : List Word) (entry : ℕ) (more : List (Option ℕ)) where
  placed : (len : ℕ) (o : Option ℕ) → option_and_then (λ start. words_behind (with earlier entry len start) (entry + 1) []) o ≡ Some words
      → option_and_then (λ start. words_behind (with earlier entry len start) (entry + 1) more) o ≡ words_behind words (entry + 1) more
  unfolding words_behind
  placed len None h = absurd (none-some words h)
  placed len (Some start) h = ap (λ w. words_behind w (entry + 1) more) (same_Some (with earlier entry len start) words h)

  -- with the word of one length more
  pub word_goes_on : (len : Option ℕ) → words_behind earlier entry (len ∷ []) ≡ Some words → words_behind earlier entry (len ∷ more) ≡ words_behind words (entry + 1) more
  unfolding words_behind
  word_goes_on None h = ap (λ w. words_behind w (entry + 1) more) (same_Some earlier words h)
  word_goes_on (Some len) h = placed len (first_free earlier len) h

module _ (earlier : List Word) (entry : ℕ) (more : List (Option ℕ)) where
  unplaced : (len : ℕ) (o : Option ℕ) → option_and_then (λ start. words_behind (with earlier entry len start) (entry + 1) []) o ≡ None
      → option_and_then (λ start. words_behind (with earlier entry len start) (entry + 1) more) o ≡ None
  unfolding words_behind
  unplaced len None h = refl
  unplaced len (Some start) h = absurd (none-some (with earlier entry len start) (sym h))

  -- where one finds no place, all of them don't
  pub word_ends : (len : Option ℕ) → words_behind earlier entry (len ∷ []) ≡ None → words_behind earlier entry (len ∷ more) ≡ None
  unfolding words_behind
  word_ends None h = absurd (none-some earlier (sym h))
  word_ends (Some len) h = unplaced len (first_free earlier len) h

pub is_ok : {X : Type 0} (o : Option X) (x : X) → ok_or o Tree ≡ Ok x → o ≡ Some x
is_ok None x h = absurd (cc)
is_ok (Some y) x h = cc

pub is_refused : {X : Type 0} (o : Option X) (e : BookFault) → ok_or o Tree ≡ Err e → o ≡ None
is_refused None e h = refl
is_refused (Some y) e h = absurd (cc)
