-- Numbers, flags and counts of a setup packet.
use Rattle.std.proofs.Common.{◌≡◌, ℕ, zero, suc, ◌+◌, ◌-◌, ◌^◌, ◌<◌, ◌++◌, refl, sym, ap, subst, ◌==◌, nat_lt, Bool, true, false, arith, eqb-true, if◌then◌else◌}
use Rattle.std.proofs.lemmas.Nat.{pow_pos}
use Rattle.std.proofs.lemmas.Bool.{ltb-true, eqb-false}
use Rattle.model_bits.specs.Bits.{bit_value}
use Rattle.model_bits.specs.Writing.{WasRead, in_bits, flag, count_in_bits, flagged_count}
use Rattle.model_bits.specs.Reading.{give, require}
use Rattle.model_bits.proofs.WasRead.{given, number_read, in_turn}
use Rattle.model_setup.specs.declared.setup.SetupFault.{SetupFault}
use Rattle.model_setup.specs.SetupCauses.{end_fault}
use Rattle.model_setup.specs.SetupPacket.{setup_field, number_below_at, zero_at, count_at, count_if_flagged_at}
use Rattle.model_writing.proofs.Kept.{Kept, Known, AreRead, kept, bind, last, done, tested, test_last, number, are_number, are_given, are_in_turn, are_map}

-- a flag's number is the number of its bit
bit_kept : (n : ℕ) → n < 2 → bit_value (n == 1) ≡ n
bit_kept zero small = refl
bit_kept (suc zero) small = refl
bit_kept (suc (suc n)) small = absurd (omega arith)

pub flag_is : (n : ℕ) → n < 2 → in_bits 1 n ≡ flag (n == 1)
flag_is n small = ap (in_bits 1) (sym (bit_kept n small))

pub count_is : (width n : ℕ) → in_bits width n ≡ count_in_bits width (n + 1)
count_is width n = ap (in_bits width) (let e : n ≡ n + 1 - 1 = omega arith in e)

pub below_kept : (width bound : ℕ) (fault : SetupFault) → Kept (number_below_at width bound fault) (in_bits width) (λ n. n < bound)
unfolding number_below_at
below_kept width bound fault = kept (bind (number end_fault width) (λ n fits. tested (nat_lt n bound) fault (λ h. done (refl, ltb-true n bound h))))

pub zero_kept : (width : ℕ) (fault : SetupFault) → Kept (zero_at width fault) (λ n. in_bits width 0) (λ n. Unit {0})
unfolding zero_at
zero_kept width fault = kept (bind (number end_fault width) (λ n fits. test_last (n == 0) fault (λ h. (ap (in_bits width) (eqb-true n 0 h), tt))))

pub count_kept : (width : ℕ) → Kept (count_at width) (count_in_bits width) (λ n. Unit {0})
unfolding count_at
count_kept width = kept (last (λ n. n + 1) (number end_fault width) (λ n small. (count_is width n, tt)))

-- what is written whatever was read
pub zero_are : (width : ℕ) (fault : SetupFault) → AreRead (zero_at width fault) 0 (in_bits width 0)
unfolding zero_at
zero_are width fault = are_in_turn (λ n. require (n == 0) fault) 0 (are_number end_fault width 0 (pow_pos width)) (are_given 0)

pub count_are : (width n : ℕ) → n < 2 ^ width → AreRead (count_at width) (n + 1) (in_bits width n)
unfolding count_at
count_are width n small = are_map (λ m. m + 1) (are_number end_fault width n small)

-- a count behind a flag: the other count is written without it, also where it was read behind it
flagged_are : (width other n : ℕ) → n < 2 ^ width → AreRead (count_if_flagged_at width other) (n + 1) (in_bits 1 1 ++ in_bits width n)
unfolding count_if_flagged_at
flagged_are width other n small = are_in_turn (λ f. if f == 1 then count_at width else give other) 1 (are_number end_fault 1 1 (omega arith)) (count_are width n small)

other_are : (width other : ℕ) → AreRead (count_if_flagged_at width other) other (in_bits 1 0)
unfolding count_if_flagged_at
other_are width other = are_in_turn (λ f. if f == 1 then count_at width else give other) 0 (are_number end_fault 1 0 (omega arith)) (are_given other)

counted_are : (width other n : ℕ) (b : Bool) → ((n + 1) == other) ≡ b → n < 2 ^ width → AreRead (count_if_flagged_at width other) (n + 1) (if b then in_bits 1 0 else in_bits 1 1 ++ count_in_bits width (n + 1))
counted_are width other n true same small = subst (λ m. AreRead (count_if_flagged_at width other) m (in_bits 1 0)) (sym (eqb-true (n + 1) other same)) (other_are width other)
counted_are width other n false apart small = subst (λ fields. AreRead (count_if_flagged_at width other) (n + 1) (in_bits 1 1 ++ fields)) (count_is width n) (flagged_are width other n small)

not_flagged : (width other : ℕ) (b : Bool) → (other == other) ≡ b → AreRead (count_if_flagged_at width other) other (if b then in_bits 1 0 else in_bits 1 1 ++ count_in_bits width other)
not_flagged width other true same = other_are width other
not_flagged width other false apart = absurd (eqb-false other other apart refl)

module _ (width other x : ℕ) where
  counted_again : WasRead (count_at width) x → AreRead (count_if_flagged_at width other) x (flagged_count width other x)
  unfolding count_at
  counted_again was =
      let one = in_turn (setup_field width) (λ n. give (n + 1)) x was in
      let n = one.between in
      subst (λ m. AreRead (count_if_flagged_at width other) m (flagged_count width other m)) (given (n + 1) x one.second) (counted_are width other n ((n + 1) == other) refl (number_read end_fault width n one.first))

  flagged_again : (b : Bool) → WasRead (if b then count_at width else give other) x → AreRead (count_if_flagged_at width other) x (flagged_count width other x)
  flagged_again true was = counted_again was
  flagged_again false was = subst (λ m. AreRead (count_if_flagged_at width other) m (flagged_count width other m)) (given other x was) (not_flagged width other (other == other) refl)

  flagged_known : WasRead (count_if_flagged_at width other) x → Known (count_if_flagged_at width other) x (flagged_count width other x) (Unit {0})
  unfolding count_if_flagged_at
  flagged_known was =
      let one = in_turn (setup_field 1) (λ f. if f == 1 then count_at width else give other) x was in
      record { are = flagged_again (one.between == 1) one.second; fact = tt }

pub flagged_kept : (width other : ℕ) → Kept (count_if_flagged_at width other) (flagged_count width other) (λ n. Unit {0})
flagged_kept width other = record { at = λ x was. flagged_known width other x was }
