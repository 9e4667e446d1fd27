-- Numbers with one residue.
use Rattle.std.proofs.Common.{◌≡◌, ℕ, ◌+◌, ◌*◌, ◌%◌, ◌∙◌, sym, ap}
use Rattle.std.proofs.Math.Nat.{add-mod, add-mul-mod_self_right}
use Rattle.std.proofs.lemmas.Nat.{mul-mod}

-- numbers that differ by multiples of p
pub same_mod : (p a b x y : ℕ) → a + x * p ≡ b + y * p → a % p ≡ b % p
same_mod p a b x y e =
    sym (add-mul-mod_self_right a x p) ∙ (ap (λ n. n % p) e ∙ add-mul-mod_self_right b y p)

-- sums of such numbers
pub add_same : (p a b a' b' : ℕ) → a % p ≡ a' % p → b % p ≡ b' % p → (a + b) % p ≡ (a' + b') % p
add_same p a b a' b' ea eb =
    add-mod a b p
    ∙ (ap (λ n. (n + b % p) % p) ea ∙ (ap (λ n. (a' % p + n) % p) eb ∙ sym (add-mod a' b' p)))

-- products of such numbers
pub mul_same : (p a b a' b' : ℕ) → a % p ≡ a' % p → b % p ≡ b' % p → (a * b) % p ≡ (a' * b') % p
mul_same p a b a' b' ea eb =
    mul-mod a b p
    ∙ (ap (λ n. (n * (b % p)) % p) ea ∙ (ap (λ n. (a' % p * n) % p) eb ∙ sym (mul-mod a' b' p)))
