-- The greatest root.
use Rattle.std.proofs.Common.{◌≡◌, ℕ, zero, suc, ◌+◌, ◌-◌, ◌*◌, ◌^◌, ◌<◌, ◌≤◌, inl, inr, subst, refl, sym, ◌∙◌, arith, add-one, add-zero}
use Rattle.std.proofs.lemmas.Bool.{cases_lt, le-leb, lt-leb}
use Rattle.std.proofs.Math.Nat.{pow-le-pow_left, pow-succ', one-le-pow, mul-le-mul_left}
use Rattle.model_setup.specs.Vectors.{root_up_to, root_of}

at_once : (r n d : ℕ) → suc r ^ d ≤ n → root_up_to (suc r) n d ≡ suc r
unfolding root_up_to
at_once r n d h = rw (le-leb (suc r ^ d) n h) refl

one_less : (r n d : ℕ) → n < suc r ^ d → root_up_to (suc r) n d ≡ root_up_to r n d
unfolding root_up_to
one_less r n d h = rw (lt-leb (suc r ^ d) n h) refl

nothing : (n d : ℕ) → root_up_to 0 n d ≡ 0
unfolding root_up_to
nothing n d = refl

-- the search downwards ends at a root whose next power is more
pub root_is : (more r n d : ℕ) → r ^ d ≤ n → n < (r + 1) ^ d → root_up_to (r + more) n d ≡ r
root_is zero zero n d low high = nothing n d
root_is zero (suc r) n d low high = rw add-zero (at_once r n d low)
root_is (suc more) r n d low high =
    let le : r + 1 ≤ suc (r + more) = omega arith in
    let up : (r + 1) ^ d ≤ suc (r + more) ^ d = pow-le-pow_left le d in
    let e : r + suc more ≡ suc (r + more) = omega arith in
    rw e (one_less (r + more) n d (omega arith) ∙ root_is more r n d low high)

-- a number is no more than its powers
pub le-pow : (n d : ℕ) → 0 < d → n ≤ n ^ d
le-pow zero d h = omega arith
le-pow (suc n) zero h = absurd (omega arith)
le-pow (suc n) (suc d) h =
    let one : 1 ≤ suc n ^ d = one-le-pow d (suc n) (omega arith) in
    let m : suc n * 1 ≤ suc n * suc n ^ d = mul-le-mul_left (suc n) one in
    rw (pow-succ' (suc n) d) (omega arith)

pub zero-pow-le : (n d : ℕ) → 0 < d → 0 ^ d ≤ n
zero-pow-le n zero h = absurd (omega arith)
zero-pow-le n (suc d) h = rw (pow-succ' 0 d) (omega arith)

greatest_up_to : (most n d : ℕ) → 0 < d → n < (most + 1) ^ d → (root_up_to most n d ^ d ≤ n) × (n < (root_up_to most n d + 1) ^ d)
greatest_up_to zero n d some high = rw (nothing n d) (zero-pow-le n d some, high)
greatest_up_to (suc most) n d some high = elim (cases_lt n (suc most ^ d)) [
  | inr le ↦ rw (at_once most n d le) (le, high)
  | inl less ↦ rw (one_less most n d less) (greatest_up_to most n d some (rw add-one less))
]

pub root_is_greatest : (n d : ℕ) → 0 < d → (root_of n d ^ d ≤ n) × (n < (root_of n d + 1) ^ d)
unfolding root_of
root_is_greatest n d some =
    let p : n + 1 ≤ (n + 1) ^ d = le-pow (n + 1) d some in
    greatest_up_to n n d some (omega arith)

-- a root that was found by a search upwards
pub root_found : (r n d : ℕ) → r ≤ n → r ^ d ≤ n → n < (r + 1) ^ d → r ≡ root_of n d
unfolding root_of
root_found r n d le low high =
    let e : r + (n - r) ≡ n = omega arith in
    sym (subst (λ (most : ℕ). root_up_to most n d ≡ r) e (root_is (n - r) r n d low high))
