-- A constants file that is written of numbers: which numbers it has, and that it is accepted.
use Rattle.std.proofs.Common.{◌≡◌, ℕ, zero, suc, ◌+◌, ◌*◌, ◌^◌, ◌<◌, ◌≤◌, List, [], ◌∷◌, ◌++◌, length, get_or, drop, map, refl, sym, ap, ◌∙◌, Bool, false, Ok, Err, None, arith, inl, inr, subst, lit<}
use Rattle.std.specs.List.{range_with_len, flat_map, find}
use Rattle.std.specs.Prelude.{◌==◌, if◌then◌else◌}
use Rattle.std.proofs.lemmas.List.{drop_more}
use Rattle.std.proofs.lemmas.List.FromFn.{fill_by_all}
use Rattle.std.proofs.lemmas.Bool.{cases_lt, lt-ltb, le-ltb, cond-true, cond-false}
use Rattle.byteorder.specs.Endian.{little_number}
use Rattle.byteorder.specs.Numbers.{little_number-reads_back}
use Rattle.model_synthesis.specs.declared.constants.TheConstants.{CONSTANTS_WORD, CONSTANTS_SIZE, DECIBEL_COUNT, SLOPE_COUNT, COSINE_COUNT}
use Rattle.model_synthesis.specs.declared.constants.ConstantsFault.TheVariants.{Length}
use Rattle.model_synthesis.specs.ConstantsFile.{number_at, number_count, numbers_of, greatest_at, is_past, first_past, tables_unless, tables_in, tables_of, constants_of}
use Rattle.model_trial.specs.MadeConstants.{number_bytes}

pub length-written : (numbers : List ℕ) → length (flat_map number_bytes numbers) ≡ 4 * length numbers
length-written [] = refl
length-written (n ∷ ns) = omega (arith, length-written ns)

drop_nothing : (n : ℕ) → let none : List ℕ = [] in drop n none ≡ none
drop_nothing zero = refl
drop_nothing (suc n) = refl

drop-written : (i : ℕ) (numbers : List ℕ) → drop (4 * i) (flat_map number_bytes numbers) ≡ flat_map number_bytes (drop i numbers)
drop-written zero numbers = refl
drop-written (suc i) [] = drop_nothing (4 * suc i)
drop-written (suc i) (n ∷ ns) =
    let more : 4 * suc i ≡ suc (suc (suc (suc (4 * i)))) = omega arith in
    ap (λ k. drop k (flat_map number_bytes (n ∷ ns))) more ∙ drop-written i ns

-- the number of an index is the one that was written
pub number_written : (numbers : List ℕ) (i : ℕ) → i < length numbers → get_or numbers i 0 < 2 ^ 32 → number_at (flat_map number_bytes numbers) i ≡ get_or numbers i 0
number_written numbers i within small =
    let n = get_or numbers i 0 in
    let rest = drop (i + 1) numbers in
    ap (λ bytes. little_number 4 bytes) (drop-written i numbers ∙ ap (flat_map number_bytes) (drop_more numbers i 0 within))
    ∙ little_number-reads_back 4 n (flat_map number_bytes rest) small

none_found : (p : ℕ → Bool) (a n : ℕ) → ((k : ℕ) → k < n → p (a + k) ≡ false) → find p (range_with_len a n) ≡ None
none_found p a zero fails = refl
none_found p a (suc n) fails =
    let first : a + 0 ≡ a = omega arith in
    cond-false _ _ _ (sym (ap p first) ∙ fails 0 (omega arith))
    ∙ none_found p (a + 1) n (λ k h. let next : a + 1 + k ≡ a + suc k = omega arith in ap p next ∙ fails (suc k) (omega arith))

module _ (numbers : List ℕ) (small : (i : ℕ) → i < length numbers → get_or numbers i 0 ≤ greatest_at i) where
  greatest_small : (i : ℕ) → greatest_at i < 2 ^ 32
  greatest_small i = elim (cases_lt i DECIBEL_COUNT) [
    | inl low ↦ subst (λ n. n < 2 ^ 32) (sym (cond-true _ _ _ (lt-ltb i DECIBEL_COUNT low))) (lit< tt)
    | inr high ↦ subst (λ n. n < 2 ^ 32) (sym (cond-false _ _ _ (le-ltb i DECIBEL_COUNT high))) (lit< tt)
  ]

  is : (i : ℕ) → i < length numbers → number_at (flat_map number_bytes numbers) i ≡ get_or numbers i 0
  is i h = number_written numbers i h (omega (arith, small i h, greatest_small i))

  count : number_count (flat_map number_bytes numbers) ≡ length numbers
  count = omega (arith, length-written numbers)

  all : numbers_of (flat_map number_bytes numbers) ≡ numbers
  all =
      ap (λ n. map (number_at (flat_map number_bytes numbers)) (range_with_len 0 n)) count
      ∙ sym (fill_by_all (number_at (flat_map number_bytes numbers)) numbers (length numbers) 0 refl (λ i h. sym (is i h)))

  none : first_past (flat_map number_bytes numbers) ≡ None
  none =
      ap (λ n. find (is_past (flat_map number_bytes numbers)) (range_with_len 0 n)) count
      ∙ none_found (is_past (flat_map number_bytes numbers)) 0 (length numbers) (λ k h.
      let place : 0 + k ≡ k = omega arith in
      let within : number_at (flat_map number_bytes numbers) k ≤ greatest_at k = subst (λ n. n ≤ greatest_at k) (sym (is k h)) (small k h) in
      ap (is_past (flat_map number_bytes numbers)) place ∙ le-ltb (greatest_at k) (number_at (flat_map number_bytes numbers) k) within)

  pub accepted : length numbers ≡ DECIBEL_COUNT + SLOPE_COUNT + COSINE_COUNT → constants_of (CONSTANTS_WORD ++ flat_map number_bytes numbers) ≡ Ok (tables_of numbers)
  unfolding constants_of
  accepted size =
      let b = flat_map number_bytes numbers in
      let whole : length (CONSTANTS_WORD ++ flat_map number_bytes numbers) ≡ CONSTANTS_SIZE = omega (arith, length-written numbers) in
      ap (λ n. if n == CONSTANTS_SIZE then tables_in (flat_map number_bytes numbers) else Err (Length n)) whole
      ∙ ap (tables_unless b) none ∙ ap (λ ns. Ok (tables_of ns)) all
