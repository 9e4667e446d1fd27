-- Tables that are filled by the powers of a number.
use Rattle.std.proofs.Common.{◌≡◌, ℕ, zero, suc, ◌+◌, ◌-◌, ◌*◌, ◌/◌, ◌%◌, ◌^◌, ◌<◌, ◌≤◌, ◌∙◌, sym, refl, ap, arith, List, [], ◌∷◌, ◌++◌, length, slice_get, get_or, set, Some, add-one, subst, inl, inr, ℤ, pos}
use Rattle.std.proofs.Math.Pow.{pow_mono}
use Rattle.std.proofs.Math.Nat.{pow-suc, div-add-mod'}
use Rattle.std.proofs.lemmas.Nat.{pow_pos, mul-mod_first}
use Rattle.std.proofs.lemmas.List.{get_or-set_same, get_or-set_other}
use Rattle.std.proofs.lemmas.Bool.{cases_eq}

pub record Sizes (levels : ℕ) : Type 0 where
  pub most : 2 ^ levels ≤ 4096
  pub twice : 2 ^ levels ≡ 2 ^ (levels - 1) + 2 ^ (levels - 1)
  pub half : 0 < 2 ^ (levels - 1)

pub sizes : (levels : ℕ) → levels ≤ 12 → 0 < levels → Sizes levels
sizes zero few some = absurd (omega arith)
sizes (suc s) few some =
    let less : suc s - 1 ≡ s = omega arith in
    record { most = pow_mono few; twice = rw less (omega (arith, pow-suc 2 s)); half = pow_pos (suc s - 1) }

-- what is left of an odd number is odd
pub odd_rest : (x size : ℕ) → x % 2 ≡ 1 → (x % (4 * size)) % 2 ≡ 1
odd_rest x size h =
    let whole : x / (4 * size) * (4 * size) + x % (4 * size) ≡ x = div-add-mod' x (4 * size) in
    omega arith

pub power_rest : (g k m step : ℕ) → step ≡ (g ^ k) % m → (step * g) % m ≡ (g ^ (k + 1)) % m
power_rest g k m step e =
    ap (λ x. (x * g) % m) e ∙ (mul-mod_first (g ^ k) g m ∙ (ap (λ x. x % m) (sym (pow-suc g k)) ∙ ap (λ n. (g ^ n) % m) (sym (add-one k))))

pub each_pushed : {A : Type 0} (P : ℕ → A → Type 0) (xs : List A) (x : A) (n : ℕ) → length xs ≡ n → ((b : ℕ) (p : A) → slice_get xs b ≡ Some p → P b p) → P n x → (b : ℕ) (p : A) → slice_get (xs ++ x ∷ []) b ≡ Some p → P b p
each_pushed P [] x n e old new zero p h =
    let same : x ≡ p = cc in
    subst (λ y. P 0 y) same (subst (λ m. P m x) (sym e) new)
each_pushed P [] x n e old new (suc b) p h = absurd (cc)
each_pushed P (y ∷ ys) x zero e old new b p h = absurd (omega arith)
each_pushed P (y ∷ ys) x (suc n) e old new zero p h = old 0 p h
each_pushed P (y ∷ ys) x (suc n) e old new (suc b) p h = each_pushed (λ k. P (suc k)) ys x n (omega arith) (λ k q g. old (suc k) q g) new b p h

pub get_within : {A : Type 0} (xs : List A) (b : ℕ) (p : A) → slice_get xs b ≡ Some p → b < length xs
get_within [] b p h = absurd (cc)
get_within (x ∷ xs) zero p h = omega arith
get_within (x ∷ xs) (suc b) p h = let below : b < length xs = get_within xs b p h in omega arith

pub get_at : {A : Type 0} (xs : List A) (b : ℕ) (d : A) → b < length xs → slice_get xs b ≡ Some (get_or xs b d)
get_at [] b d h = absurd (omega arith)
get_at (x ∷ xs) zero d h = refl
get_at (x ∷ xs) (suc b) d h = get_at xs b d (omega arith)

pub set_target : (xs : List ℤ) (i : ℕ) (v : ℤ) (target : ℕ → ℤ) (q : ℕ) → i < length xs → v ≡ target i → ((q ≡ i → ⊥) → get_or xs q (pos 0) ≡ target q) → get_or (set xs i v) q (pos 0) ≡ target q
set_target xs i v target q h e old = elim (cases_eq q i) [
  | inl same ↦ ap (λ k. get_or (set xs i v) k (pos 0)) same ∙ (get_or-set_same xs i v (pos 0) h ∙ (e ∙ ap target (sym same)))
  | inr other ↦ get_or-set_other xs i q v (pos 0) other ∙ old other
]
