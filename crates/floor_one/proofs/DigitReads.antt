-- The values of a partition, one after the other by the digits of its class word.
use Rattle.std.proofs.Common.{◌≡◌, ℕ, ◌+◌, ◌*◌, ◌/◌, ◌%◌, ◌^◌, ◌<◌, List, [], ◌∷◌, ◌++◌, drop, Option, Result, Ok, Err, Bool, ap, sym, ◌∙◌, arith}
use Rattle.std.specs.Prelude.{slice_get, option_and_then}
use Rattle.std.specs.List.{range_with_len}
use Rattle.std.proofs.lemmas.Nat.{one_shl}
use Rattle.model_bits.specs.Reading.{each, with_front}
use Rattle.codebooks.proofs.Fills.{digits_next}
use Rattle.model_bits.proofs.Each.{each_number_goes_on, each_number_fails}
use Rattle.model_setup.specs.Codebook.{Codebook}
use Rattle.model_setup.specs.FloorSetup.{FloorClass}
use Rattle.model_setup.specs.FloorPacket.{entry_or_0_at, book_of_value}

-- a power of 2 in 32 bits
pub power_is : (bits inside : ℕ) → inside ≡ bits → bits < 4 → 1 * 2 ^ inside % 2 ^ 32 ≡ 2 ^ bits
power_is bits inside e small = one_shl inside 32 (omega arith) ∙ ap (λ n. 2 ^ n) e

pub next_digits : (word0 word base i divisor : ℕ) → word ≡ word0 / base ^ i → divisor ≡ base → word / divisor ≡ word0 / base ^ (i + 1)
next_digits word0 word base i divisor e f = ap (λ n. n / divisor) e ∙ ap (λ n. word0 / base ^ i / n) f ∙ digits_next word0 base i

-- the reading of value j
abbrev pub value_reading : List Codebook → FloorClass → ℕ → ℕ → List Bool → Result (ℕ × List Bool) (Unit {0})
value_reading books class word j = entry_or_0_at books (book_of_value class word j)

pub front_fails : {E A : Type 0} (front : List A) (reading : Result (List A × List Bool) E) (e : E) → with_front front reading ≡ Err e → reading ≡ Err e
front_fails front (Ok x) e h = absurd (cc)
front_fails front (Err f) e h = h

module _ (books : List Codebook) (class : FloorClass) (word0 word divisor i : ℕ) (book : Option ℕ) (left0 left : List Bool) (front0 front : List ℕ) (word_is : word ≡ word0 / (2 ^ class.subclass_bits) ^ i) (divisor_is : divisor ≡ 2 ^ class.subclass_bits)
    (book_is : book ≡ option_and_then (λ named. named) (slice_get class.books (word % divisor))) (within : i < class.dimensions)
    (so_far : with_front front (each (value_reading books class word0) (drop i (range_with_len 0 class.dimensions)) left) ≡ with_front front0 (each (value_reading books class word0) (range_with_len 0 class.dimensions) left0)) where
  book_at : book ≡ book_of_value class word0 i
  book_at = book_is ∙ ap (λ n. option_and_then (λ named. named) (slice_get class.books (n % divisor))) word_is ∙ ap (λ n. option_and_then (λ named. named) (slice_get class.books (word0 / (2 ^ class.subclass_bits) ^ i % n))) divisor_is

  reading_is : value_reading books class word0 i left ≡ entry_or_0_at books book left
  reading_is = ap (λ b. entry_or_0_at books b left) (sym book_at)

  pub digit_read : (x : ℕ) (after : List Bool) → entry_or_0_at books book left ≡ Ok (x, after)
      → with_front (front ++ x ∷ []) (each (value_reading books class word0) (drop (i + 1) (range_with_len 0 class.dimensions)) after) ≡ with_front front0 (each (value_reading books class word0) (range_with_len 0 class.dimensions) left0)
  digit_read x after h = each_number_goes_on (value_reading books class word0) front class.dimensions i left _ so_far x after within (reading_is ∙ h)

  pub digit_ends : entry_or_0_at books book left ≡ Err tt → each (value_reading books class word0) (range_with_len 0 class.dimensions) left0 ≡ Err tt
  digit_ends h = front_fails front0 (each (value_reading books class word0) (range_with_len 0 class.dimensions) left0) tt (each_number_fails (value_reading books class word0) front class.dimensions i left _ so_far tt within (reading_is ∙ h))
