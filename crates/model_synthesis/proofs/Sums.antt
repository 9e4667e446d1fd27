-- Sums of signed numbers.
use Rattle.std.proofs.Common.{◌≡◌, ℕ, zero, suc, ◌+◌, ◌∙◌, sym, refl, ap, ℤ, pos, negsuc, ◌+ℤ◌, ◌*ℤ◌, neg_ℤ, add-one, arith}
use Rattle.std.proofs.lemmas.Int.{ints}
use Rattle.std.proofs.Math.IntN.{neg_ℤ-+ℤ, neg_ℤ-neg_ℤ, *ℤ-negsuc}
use Rattle.model_synthesis.specs.Transform.{sum_below}

pub sum_below-add_one : (n : ℕ) (f : ℕ → ℤ) → sum_below (n + 1) f ≡ sum_below n f +ℤ f n
sum_below-add_one n f = rw add-one refl

pub sum_below-same : (n : ℕ) (f g : ℕ → ℤ) → ((k : ℕ) → f k ≡ g k) → sum_below n f ≡ sum_below n g
sum_below-same zero f g h = refl
sum_below-same (suc n) f g h =
    ap (λ x. x +ℤ f n) (sum_below-same n f g h) ∙ ap (λ x. sum_below n g +ℤ x) (h n)

pub sum_below-neg : (n : ℕ) (f : ℕ → ℤ) → sum_below n (λ k. neg_ℤ (f k)) ≡ neg_ℤ (sum_below n f)
sum_below-neg zero f = refl
sum_below-neg (suc n) f =
    ap (λ x. x +ℤ neg_ℤ (f n)) (sum_below-neg n f) ∙ sym (neg_ℤ-+ℤ (sum_below n f) (f n))

pub *ℤ-neg_ℤ : (a b : ℤ) → a *ℤ neg_ℤ b ≡ neg_ℤ (a *ℤ b)
*ℤ-neg_ℤ (pos a) (pos zero) = grind (arith, ints)
*ℤ-neg_ℤ (negsuc a) (pos zero) = grind (arith, ints)
*ℤ-neg_ℤ a (pos (suc b)) = *ℤ-negsuc a b
*ℤ-neg_ℤ a (negsuc b) = sym (ap neg_ℤ (*ℤ-negsuc a b) ∙ neg_ℤ-neg_ℤ (a *ℤ pos (suc b)))
