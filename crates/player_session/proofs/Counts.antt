-- The counts of a play, by its three words, and the number of a trial.
use Rattle.std.proofs.Common.{◌≡◌, ℕ, ◌<◌, ◌≤◌, Bool, true, false, ◌&&◌, List, Some, None, Result, Ok, Err, refl, sym, ap, arith}
use Rattle.std.specs.Prelude.{nat_le, if◌then◌else◌, MatchResult}
use Rattle.std.specs.Result.{result_ok}
use Rattle.std.proofs.lemmas.Bool.Decides.{nat_tests}
use Rattle.model_script.specs.Lines.{is_number, value_of}
use Rattle.model_script.specs.declared.fault.LineCause.{LineCause}
use Rattle.model_script.specs.declared.fault.LineCause.TheVariants as causes
use Rattle.model_script.specs.declared.counts.Counts.{Counts}
use Rattle.model_player.specs.Commands.{helpers_range, slots_range, setups_range, number_in, number_of, counts_of, trial, trial_of}

-- ---- one number

some_of : (a b c : Bool) (value n : ℕ) → a ≡ true → b ≡ true → c ≡ true → value ≡ n → (if a && (b && c) then Some value else None) ≡ Some n
some_of a b c value n p q r e = rw (p, q, r) (ap Some e)

first_fails : (a b c : Bool) (value : ℕ) → a ≡ false → (if a && (b && c) then Some value else None) ≡ None
first_fails a b c value e = rw e refl

second_fails : (a b c : Bool) (value : ℕ) → b ≡ false → (if a && (b && c) then Some value else None) ≡ None
second_fails false b c value e = refl
second_fails true b c value e = rw e refl

third_fails : (a b c : Bool) (value : ℕ) → c ≡ false → (if a && (b && c) then Some value else None) ≡ None
third_fails false b c value e = refl
third_fails true false c value e = refl
third_fails true true c value e = rw e refl

module _ (least greatest : ℕ) (word : List ℕ) where
  pub in_range : (n : ℕ) → (is_number word ≡ true) × (n ≡ value_of word) → least ≤ n → n ≤ greatest → number_in record { least = least; greatest = greatest } word ≡ Some n
  unfolding number_in
  in_range n (number, is) low high =
      let from : nat_le least (value_of word) ≡ true = grind (arith, nat_tests) in
      let to : nat_le (value_of word) greatest ≡ true = grind (arith, nat_tests) in
      some_of (is_number word) (nat_le least (value_of word)) (nat_le (value_of word) greatest) (value_of word) n number from to (sym is)

  pub too_low : (n : ℕ) → (is_number word ≡ true) × (n ≡ value_of word) → n < least → number_in record { least = least; greatest = greatest } word ≡ None
  unfolding number_in
  too_low n (number, is) low =
      let from : nat_le least (value_of word) ≡ false = grind (arith, nat_tests) in
      second_fails (is_number word) (nat_le least (value_of word)) (nat_le (value_of word) greatest) (value_of word) from

  pub too_high : (n : ℕ) → (is_number word ≡ true) × (n ≡ value_of word) → greatest < n → number_in record { least = least; greatest = greatest } word ≡ None
  unfolding number_in
  too_high n (number, is) high =
      let to : nat_le (value_of word) greatest ≡ false = grind (arith, nat_tests) in
      third_fails (is_number word) (nat_le least (value_of word)) (nat_le (value_of word) greatest) (value_of word) to

  pub no_number : is_number word ≡ false → number_in record { least = least; greatest = greatest } word ≡ None
  unfolding number_in
  no_number e = first_fails (is_number word) (nat_le least (value_of word)) (nat_le (value_of word) greatest) (value_of word) e

-- ---- the three

module _ (helpers slots setups : List ℕ) where
  pub no_helpers : number_in helpers_range helpers ≡ None → counts_of helpers slots setups ≡ None
  unfolding counts_of
  no_helpers e = rw e refl

  pub no_slots : (h : ℕ) → number_in helpers_range helpers ≡ Some h → number_in slots_range slots ≡ None → counts_of helpers slots setups ≡ None
  unfolding counts_of
  no_slots h a e = rw (a, e) refl

  pub no_setups : (h s : ℕ) → number_in helpers_range helpers ≡ Some h → number_in slots_range slots ≡ Some s → number_in setups_range setups ≡ None → counts_of helpers slots setups ≡ None
  unfolding counts_of
  no_setups h s a b e = rw (a, b, e) refl

  pub all_counts : (h s u : ℕ) → number_in helpers_range helpers ≡ Some h → number_in slots_range slots ≡ Some s → number_in setups_range setups ≡ Some u
      → counts_of helpers slots setups ≡ Some record { helpers = h; slots = s; setups = u }
  unfolding counts_of
  all_counts h s u a b e = rw (a, b, e) refl

pub ruleset counts_laws = (no_helpers, no_slots, no_setups, all_counts)

-- ---- trials

told_some : (b : Bool) (value n : ℕ) → b ≡ true → n ≡ value → Some n ≡ (if b then Some value else None)
told_some b value n p e = rw p (ap Some e)

told_none : (b : Bool) (value : ℕ) → b ≡ false → None ≡ (if b then Some value else None)
told_none b value p = rw p refl

pub number_told : (word : List ℕ) (r : Result ℕ LineCause) → MatchResult r (λ n. (is_number word ≡ true) × (n ≡ value_of word)) (λ cause. (is_number word ≡ false) × (cause ≡ causes.Number)) → result_ok r ≡ number_of word
unfolding number_of
number_told word (Ok n) told = told_some (is_number word) (value_of word) n told.0 told.1
number_told word (Err cause) told = told_none (is_number word) (value_of word) told.0

module _ (number helpers slots setups : List ℕ) where
  pub no_trial_number : number_of number ≡ None → trial_of number helpers slots setups ≡ None
  unfolding trial_of
  no_trial_number e = rw e refl

  pub no_trial_counts : (n : ℕ) → number_of number ≡ Some n → counts_of helpers slots setups ≡ None → trial_of number helpers slots setups ≡ None
  unfolding trial_of
  no_trial_counts n a e = rw (a, e) refl

  pub whole_trial : (n : ℕ) (counts : Counts) → number_of number ≡ Some n → counts_of helpers slots setups ≡ Some counts → trial_of number helpers slots setups ≡ Some (trial n counts)
  unfolding trial_of
  whole_trial n counts a e = rw (a, e) refl

pub ruleset trial_laws = (no_trial_number, no_trial_counts, whole_trial)
