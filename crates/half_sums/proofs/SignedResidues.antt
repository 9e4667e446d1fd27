-- Residues of signed numbers.
use Rattle.std.proofs.Common.{◌≡◌, ℕ, zero, suc, ◌+◌, ◌-◌, ◌*◌, ◌%◌, ◌<◌, ◌∙◌, sym, refl, ap, subst, inl, inr, arith, ℤ, pos, negsuc, neg_ℤ, ◌+ℤ◌, ◌*ℤ◌, unsigned_abs}
use Rattle.std.proofs.Math.Nat.{mod-mod, mod-lt, mod-eq_of_lt}
use Rattle.std.proofs.Math.IntN.{sub_ℕ}
use Rattle.std.proofs.lemmas.Int.{ints}
use Rattle.std.proofs.lemmas.Bool.{cases_lt, lt-ltb, le-ltb, cond-true, cond-false}
use Rattle.number_transform.specs.declared.field.TheConstants.{PRIME}
use Rattle.number_transform.specs.Field.{residue_of, SmallNumbersDiffer}
use Rattle.number_transform.specs.Products.{total}
use Rattle.model_synthesis.specs.Transform.{sum_below}
use Rattle.number_transform.proofs.Congruences.{same_mod, add_same, mul_same}

-- a natural number that has the residue
whole : ℤ → ℕ
whole (pos n) = n
whole (negsuc n) = (PRIME - 1) * suc n

from_whole : (z : ℤ) → residue_of z ≡ whole z % PRIME
unfolding whole
from_whole (pos n) = refl
from_whole (negsuc n) = refl

pub residue_small : (z : ℤ) → residue_of z < PRIME
residue_small (pos n) = mod-lt n (omega arith)
residue_small (negsuc n) = mod-lt ((PRIME - 1) * suc n) (omega arith)

pub residue_again : (z : ℤ) → residue_of z % PRIME ≡ residue_of z
residue_again z = mod-eq_of_lt (residue_small z)

minus_twice : (n p : ℕ) → 0 < p → ((p - 1) * ((p - 1) * n)) % p ≡ n % p
minus_twice n zero some = absurd (omega arith)
minus_twice n (suc q) some =
    let less : suc q - 1 ≡ q = omega arith in
    let twice : q * (q * n) + n * suc q ≡ n + q * n * suc q = omega arith in
    subst (λ r. (r * (r * n)) % suc q ≡ n % suc q) (sym less) (same_mod (suc q) (q * (q * n)) n n (q * n) twice)

whole_neg : (z : ℤ) → whole (neg_ℤ z) % PRIME ≡ ((PRIME - 1) * whole z) % PRIME
unfolding whole
whole_neg (pos zero) = refl
whole_neg (pos (suc n)) = refl
whole_neg (negsuc n) = sym (minus_twice (suc n) PRIME (omega arith))

pub residue-neg : (z : ℤ) → residue_of (neg_ℤ z) ≡ ((PRIME - 1) * residue_of z) % PRIME
residue-neg z = from_whole (neg_ℤ z) ∙ (whole_neg z ∙ (mul_same PRIME (PRIME - 1) (whole z) (PRIME - 1) (whole z % PRIME) refl (sym (mod-mod (whole z) PRIME)) ∙ ap (λ x. ((PRIME - 1) * x) % PRIME) (sym (from_whole z))))

whole_sub : (a c : ℕ) → whole (sub_ℕ a c) % PRIME ≡ (a + (PRIME - 1) * c) % PRIME
unfolding whole
whole_sub a c = elim (cases_lt a c) [
  | inl low ↦
      let less : suc (c - suc a) + a ≡ c = omega arith in
      ap (λ z. whole z % PRIME) (cond-true _ _ _ (lt-ltb a c low))
      ∙ same_mod PRIME ((PRIME - 1) * suc (c - suc a)) (a + (PRIME - 1) * c) a 0 (omega arith)
  | inr high ↦
      ap (λ z. whole z % PRIME) (cond-false _ _ _ (le-ltb a c high))
      ∙ same_mod PRIME (a - c) (a + (PRIME - 1) * c) c 0 (omega arith)
]

whole_add : (x y : ℤ) → whole (x +ℤ y) % PRIME ≡ (whole x + whole y) % PRIME
unfolding whole
whole_add (pos a) (pos b) = refl
whole_add (pos a) (negsuc b) = whole_sub a (suc b)
whole_add (negsuc a) (pos b) = whole_sub b (suc a) ∙ ap (λ n. n % PRIME) (let turn : b + (PRIME - 1) * suc a ≡ (PRIME - 1) * suc a + b = omega arith in turn)
whole_add (negsuc a) (negsuc b) = ap (λ n. n % PRIME) (let joined : (PRIME - 1) * suc (suc (a + b)) ≡ (PRIME - 1) * suc a + (PRIME - 1) * suc b = omega arith in joined)

whole_mul : (x y : ℤ) → whole (x *ℤ y) % PRIME ≡ (whole x * whole y) % PRIME
unfolding whole
whole_mul (pos a) (pos b) = refl
whole_mul (pos a) (negsuc b) = whole_neg (pos (a * suc b)) ∙ ap (λ n. n % PRIME) (let turn : (PRIME - 1) * (a * suc b) ≡ a * ((PRIME - 1) * suc b) = omega arith in turn)
whole_mul (negsuc a) (pos b) = whole_neg (pos (suc a * b)) ∙ ap (λ n. n % PRIME) (let turn : (PRIME - 1) * (suc a * b) ≡ (PRIME - 1) * suc a * b = omega arith in turn)
whole_mul (negsuc a) (negsuc b) = sym (ap (λ n. n % PRIME) (let turn : (PRIME - 1) * suc a * ((PRIME - 1) * suc b) ≡ (PRIME - 1) * ((PRIME - 1) * (suc a * suc b)) = omega arith in turn) ∙ minus_twice (suc a * suc b) PRIME (omega arith))

pub residue-add : (x y : ℤ) → residue_of (x +ℤ y) ≡ (residue_of x + residue_of y) % PRIME
residue-add x y = from_whole (x +ℤ y) ∙ (whole_add x y ∙ add_same PRIME (whole x) (whole y) (residue_of x) (residue_of y) (at x) (at y))
  where
    at : (z : ℤ) → whole z % PRIME ≡ residue_of z % PRIME
    at z = sym (from_whole z) ∙ sym (residue_again z)

pub residue-mul : (x y : ℤ) → residue_of (x *ℤ y) ≡ (residue_of x * residue_of y) % PRIME
residue-mul x y = from_whole (x *ℤ y) ∙ (whole_mul x y ∙ mul_same PRIME (whole x) (whole y) (residue_of x) (residue_of y) (at x) (at y))
  where
    at : (z : ℤ) → whole z % PRIME ≡ residue_of z % PRIME
    at z = sym (from_whole z) ∙ sym (residue_again z)

pub residue-sum : (n : ℕ) (f : ℕ → ℤ) → residue_of (sum_below n f) ≡ total n (λ i. residue_of (f i)) % PRIME
residue-sum zero f = refl
residue-sum (suc n) f = residue-add (sum_below n f) (f n) ∙ add_same PRIME (residue_of (sum_below n f)) (residue_of (f n)) (total n (λ i. residue_of (f i))) (residue_of (f n)) (ap (λ x. x % PRIME) (residue-sum n f) ∙ mod-mod (total n (λ i. residue_of (f i))) PRIME) refl

-- a number near to 0 is the one of its residue
pub near_number : (y z : ℤ) (r : ℕ) → residue_of y ≡ r → 2 * unsigned_abs y < PRIME → r ≡ residue_of z → 2 * unsigned_abs z < PRIME → y ≡ z
near_number y z r ey hy ez hz = small_numbers y z hy hz (ey ∙ ez)
  where
    small_numbers : SmallNumbersDiffer
    small_numbers y z hy hz e = grind (arith, ints)
