-- The remainders of a product are the products of the remainders.
use Rattle.std.proofs.Common.{◌≡◌, ℕ, zero, suc, ◌+◌, ◌-◌, ◌*◌, ◌%◌, ◌^◌, ◌<◌, ◌≤◌, ◌∙◌, List, [], ◌∷◌, ◌++◌, length, sym, refl, ap, subst, inl, inr, arith, length-append}
use Rattle.std.proofs.Math.Nat.{pow-suc, zero-add, mul-le-mul_left}
use Rattle.std.proofs.lemmas.Nat.{mul-mod, pow_pos}
use Rattle.std.proofs.lemmas.Bool.{cases_lt}
use Rattle.number_transform.specs.declared.field.TheConstants.{PRIME}
use Rattle.number_transform.specs.Products.{shifted, product, folded}
use Rattle.number_transform.proofs.Congruences.{same_mod, add_same, mul_same}
use Rattle.number_transform.proofs.Totals.{total_mod}
use Rattle.number_transform.proofs.Folding.{folded_product, shifted_before, shifted_after}
use Rattle.number_transform.specs.Remainders.{AreRoots, remainders, products}

pub double : (d : ℕ) → 2 ^ suc d ≡ 2 ^ d + 2 ^ d
double d = omega (arith, pow-suc 2 d)

pub length-remainders : (w : ℕ → ℕ) (d node : ℕ) (v : ℕ → ℕ) → length (remainders w d node v) ≡ 2 ^ d
length-remainders w zero node v = refl
length-remainders w (suc d) node v =
    let front : length (remainders w d (2 * node) (folded (w node) (2 ^ d) v)) ≡ 2 ^ d = length-remainders w d _ _ in
    let back : length (remainders w d (2 * node + 1) (folded (PRIME - w node) (2 ^ d) v)) ≡ 2 ^ d = length-remainders w d _ _ in
    rw length-append (omega (arith, double d))

-- they depend on the residues of the coefficients alone
pub remainders_same : (w : ℕ → ℕ) (d node : ℕ) (u v : ℕ → ℕ) → ((k : ℕ) → k < 2 ^ d → u k % PRIME ≡ v k % PRIME) → remainders w d node u ≡ remainders w d node v
remainders_same w zero node u v h = ap (λ x. x ∷ []) (h 0 (omega arith))
remainders_same w (suc d) node u v h =
    let size : 2 ^ suc d ≡ 2 ^ d + 2 ^ d = double d in
    let fold : (r k : ℕ) → k < 2 ^ d → folded r (2 ^ d) u k % PRIME ≡ folded r (2 ^ d) v k % PRIME = λ r k below.
    add_same PRIME (u k) (r * u (2 ^ d + k)) (v k) (r * v (2 ^ d + k)) (h k (omega arith)) (mul_same PRIME r (u (2 ^ d + k)) r (v (2 ^ d + k)) refl (h (2 ^ d + k) (omega arith))) in
    ap (λ front. front ++ remainders w d (2 * node + 1) (folded (PRIME - w node) (2 ^ d) u)) (remainders_same w d (2 * node) _ _ (fold (w node)))
    ∙ ap (λ back. remainders w d (2 * node) (folded (w node) (2 ^ d) v) ++ back) (remainders_same w d (2 * node + 1) _ _ (fold (PRIME - w node)))

products-append : (xs ys us vs : List ℕ) → length xs ≡ length us → products (xs ++ ys) (us ++ vs) ≡ products xs us ++ products ys vs
products-append [] ys [] vs e = refl
products-append [] ys (u ∷ us) vs e = absurd (omega arith)
products-append (x ∷ xs) ys [] vs e = absurd (omega arith)
products-append (x ∷ xs) ys (u ∷ us) vs e = ap (λ l. (x * u) % PRIME ∷ l) (products-append xs ys us vs (omega arith))

-- a product depends on the residue of c alone
product_same : (c c' n : ℕ) (a b : ℕ → ℕ) (k : ℕ) → c % PRIME ≡ c' % PRIME → k < n → product c n a b k % PRIME ≡ product c' n a b k % PRIME
product_same c c' n a b k e short = total_mod PRIME n _ _ (λ i below. mul_same PRIME (a i) (shifted c n b i k) (a i) (shifted c' n b i k) refl
    (elim (cases_lt k i) [
      | inl after ↦
          let place : i + (n + k - i) ≡ n + k = omega arith in
          rw (shifted_after c n b i k (n + k - i) after place, shifted_after c' n b i k (n + k - i) after place) (mul_same PRIME c (b (n + k - i)) c' (b (n + k - i)) e refl)
      | inr before ↦
          let place : i + (k - i) ≡ k = omega arith in
          ap (λ x. x % PRIME) (shifted_before c n b i k (k - i) place ∙ sym (shifted_before c' n b i k (k - i) place))
    ]))

squares : (q r : ℕ) → (q * q) % (q + r) ≡ (r * r) % (q + r)
squares q r = same_mod (q + r) (q * q) (r * r) r q (omega arith)

negative_square : (r : ℕ) → r < PRIME → ((PRIME - r) * (PRIME - r)) % PRIME ≡ (r * r) % PRIME
negative_square r h =
    let whole : (PRIME - r) + r ≡ PRIME = omega arith in
    subst (λ p. ((PRIME - r) * (PRIME - r)) % p ≡ (r * r) % p) whole (squares (PRIME - r) r)

-- one step down the tree
step : (r c d : ℕ) (a b : ℕ → ℕ) → (r * r) % PRIME ≡ c % PRIME → (k : ℕ) → k < 2 ^ d
    → folded r (2 ^ d) (product c (2 ^ suc d) a b) k % PRIME ≡ product r (2 ^ d) (folded r (2 ^ d) a) (folded r (2 ^ d) b) k % PRIME
step r c d a b e k h =
    let m : ℕ = 2 ^ d in
    let at : (j : ℕ) → j < m + m → product c (2 ^ suc d) a b j % PRIME ≡ product (r * r) (m + m) a b j % PRIME = λ j below.
    ap (λ n. product c n a b j % PRIME) (double d) ∙ product_same c (r * r) (m + m) a b j (sym e) below in
    add_same PRIME _ _ _ _ (at k (omega arith)) (mul_same PRIME r _ r _ refl (at (m + k) (omega arith)))
    ∙ ap (λ x. x % PRIME) (folded_product r m a b k h)

pub wide_room : (node d size : ℕ) → (node + 1) * 2 ^ suc d ≤ 2 * size → ((node + 1) * 2 ^ d ≤ size) × (0 < d → 2 * node + 1 < size)
wide_room node zero size h = (omega (arith, double 0), λ positive. absurd (omega arith))
wide_room node (suc d) size h =
    let more : 2 ^ suc (suc d) ≡ 2 ^ suc d + 2 ^ suc d = double (suc d) in
    let half : (node + 1) * 2 ^ suc d ≤ size = cut node (2 ^ suc d) (2 ^ suc (suc d)) size more h in
    let two : 2 ≤ 2 ^ suc d = omega (arith, double d, pow_pos d) in
    let least : (node + 1) * 2 ≤ (node + 1) * 2 ^ suc d = mul-le-mul_left (node + 1) two in
    (half, λ positive. omega arith)
  where
    cut : (n m m' s : ℕ) → m' ≡ m + m → (n + 1) * m' ≤ 2 * s → (n + 1) * m ≤ s
    cut n m m' s e h =
        let same : (n + 1) * m' ≡ (n + 1) * (m + m) = ap (λ x. (n + 1) * x) e in
        omega arith

pub below_room : (node m size : ℕ) → (node + 1) * m ≤ size → (2 * node + 1) * m ≤ 2 * size
below_room node m size h = omega arith

pub beside_room : (node m size : ℕ) → (node + 1) * m ≤ size → (2 * node + 1 + 1) * m ≤ 2 * size
beside_room node m size h = omega arith

pub remainders_product : (w : ℕ → ℕ) (size d node c : ℕ) (a b : ℕ → ℕ) → AreRoots w size → 0 < node → (node + 1) * 2 ^ d ≤ 2 * size → (0 < d → (w node * w node) % PRIME ≡ c % PRIME)
    → remainders w d node (product c (2 ^ d) a b) ≡ products (remainders w d node a) (remainders w d node b)
remainders_product w size zero node c a b roots positive room root = ap (λ x. x ∷ []) (ap (λ n. n % PRIME) (zero-add (a 0 * b 0)) ∙ mul-mod (a 0) (b 0) PRIME)
remainders_product w size (suc d) node c a b roots positive room root =
    let m : ℕ = 2 ^ d in
    let r : ℕ = w node in
    let s : ℕ = PRIME - w node in
    let square : (r * r) % PRIME ≡ c % PRIME = root (omega arith) in
    let other_square : (s * s) % PRIME ≡ c % PRIME = negative_square r (roots.small node) ∙ square in
    let rooms : ((node + 1) * 2 ^ d ≤ size) × (0 < d → 2 * node + 1 < size) = wide_room node d size room in
    let front : remainders w d (2 * node) (folded r m (product c (2 ^ suc d) a b)) ≡ products (remainders w d (2 * node) (folded r m a)) (remainders w d (2 * node) (folded r m b)) =
    remainders_same w d (2 * node) _ _ (step r c d a b square)
    ∙ remainders_product w size d (2 * node) r (folded r m a) (folded r m b) roots (omega arith) (below_room node m size rooms.0) (λ deep. roots.left node (let wide : 2 * node + 1 < size = rooms.1 deep in omega arith)) in
    let back : remainders w d (2 * node + 1) (folded s m (product c (2 ^ suc d) a b)) ≡ products (remainders w d (2 * node + 1) (folded s m a)) (remainders w d (2 * node + 1) (folded s m b)) =
    remainders_same w d (2 * node + 1) _ _ (step s c d a b other_square)
    ∙ remainders_product w size d (2 * node + 1) s (folded s m a) (folded s m b) roots (omega arith) (beside_room node m size rooms.0) (λ deep. roots.right node (rooms.1 deep)) in
    ap (λ l. l ++ remainders w d (2 * node + 1) (folded s m (product c (2 ^ suc d) a b))) front
    ∙ (ap (λ l. products (remainders w d (2 * node) (folded r m a)) (remainders w d (2 * node) (folded r m b)) ++ l) back
    ∙ sym (products-append (remainders w d (2 * node) (folded r m a)) _ (remainders w d (2 * node) (folded r m b)) _ (length-remainders w d _ _ ∙ sym (length-remainders w d _ _))))
