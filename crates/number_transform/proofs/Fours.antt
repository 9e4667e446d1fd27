-- Polynomials of four coefficients.
use Rattle.std.proofs.Common.{◌≡◌, ℕ, zero, suc, ◌+◌, ◌-◌, ◌*◌, ◌%◌, ◌<◌, ◌∙◌, List, [], ◌∷◌, length, get_or, set, sym, refl, ap, arith}
use Rattle.std.proofs.Math.Nat.{mod-mod, one-mul}
use Rattle.number_transform.specs.declared.field.TheConstants.{PRIME}
use Rattle.number_transform.proofs.Congruences.{add_same, mul_same}
use Rattle.number_transform.specs.Products.{folded}
use Rattle.number_transform.specs.Remainders.{remainders}
use Rattle.number_transform.specs.Folds.{fold_front, fold_back, join_front, join_back}
use Rattle.number_transform.proofs.Differences.{sum_of_folds, difference_of_folds}

four_set : (xs : List ℕ) (a b c d : ℕ) → length xs ≡ 4 → set (set (set (set xs 0 a) 1 b) 2 c) 3 d ≡ a ∷ b ∷ c ∷ d ∷ []
four_set [] a b c d e = absurd (omega arith)
four_set (x ∷ []) a b c d e = absurd (omega arith)
four_set (x ∷ y ∷ []) a b c d e = absurd (omega arith)
four_set (x ∷ y ∷ z ∷ []) a b c d e = absurd (omega arith)
four_set (x ∷ y ∷ z ∷ t ∷ []) a b c d e = refl
four_set (x ∷ y ∷ z ∷ t ∷ u ∷ us) a b c d e = absurd (omega arith)

-- folded once more
refolded : (s a b a' b' x : ℕ) → a ≡ a' % PRIME → b ≡ b' % PRIME → x ≡ (a + s * b) % PRIME → x ≡ (a' + s * b') % PRIME
refolded s a b a' b' x ea eb ex =
    ex ∙ add_same PRIME a (s * b) a' (s * b') (ap (λ y. y % PRIME) ea ∙ mod-mod a' PRIME)
    (mul_same PRIME s b s b' refl (ap (λ y. y % PRIME) eb ∙ mod-mod b' PRIME))

-- four coefficients folded twice are their remainders
pub four_remainders : (w : ℕ → ℕ) (node : ℕ) (xs : List ℕ) (a b c d first second third fourth : ℕ) → length xs ≡ 4
    → a ≡ fold_front (w node) (get_or xs 0 0) (get_or xs 2 0)
    → c ≡ fold_back (w node) (get_or xs 0 0) (get_or xs 2 0)
    → b ≡ fold_front (w node) (get_or xs 1 0) (get_or xs 3 0)
    → d ≡ fold_back (w node) (get_or xs 1 0) (get_or xs 3 0)
    → first ≡ fold_front (w (2 * node)) a b
    → second ≡ fold_back (w (2 * node)) a b
    → third ≡ fold_front (w (2 * node + 1)) c d
    → fourth ≡ fold_back (w (2 * node + 1)) c d
    → set (set (set (set xs 0 first) 1 second) 2 third) 3 fourth ≡ remainders w 2 node (λ i. get_or xs i 0)
four_remainders w node xs a b c d first second third fourth size ea ec eb ed e1 e2 e3 e4 =
    let v : ℕ → ℕ = λ i. get_or xs i 0 in
    let front : ℕ → ℕ = folded (w node) 2 v in
    let back : ℕ → ℕ = folded (PRIME - w node) 2 v in
    four_set xs first second third fourth size
    ∙ (ap (λ x. x ∷ second ∷ third ∷ fourth ∷ []) (refolded (w (2 * node)) a b (front 0) (front 1) first ea eb e1)
    ∙ (ap (λ x. ((front 0 + w (2 * node) * front 1) % PRIME) ∷ x ∷ third ∷ fourth ∷ []) (refolded (PRIME - w (2 * node)) a b (front 0) (front 1) second ea eb e2)
    ∙ (ap (λ x. ((front 0 + w (2 * node) * front 1) % PRIME) ∷ ((front 0 + (PRIME - w (2 * node)) * front 1) % PRIME) ∷ x ∷ fourth ∷ []) (refolded (w (2 * node + 1)) c d (back 0) (back 1) third ec ed e3)
    ∙ ap (λ x. ((front 0 + w (2 * node) * front 1) % PRIME) ∷ ((front 0 + (PRIME - w (2 * node)) * front 1) % PRIME) ∷ ((back 0 + w (2 * node + 1) * back 1) % PRIME) ∷ x ∷ [])
    (refolded (PRIME - w (2 * node + 1)) c d (back 0) (back 1) fourth ec ed e4))))

each_of_four : (f : ℕ → ℕ) (a b c d : ℕ) → a ≡ f 0 → b ≡ f 1 → c ≡ f 2 → d ≡ f 3 → (k : ℕ) → k < 4 → get_or (a ∷ b ∷ c ∷ d ∷ []) k 0 ≡ f k
each_of_four f a b c d ea eb ec ed zero h = ea
each_of_four f a b c d ea eb ec ed (suc zero) h = eb
each_of_four f a b c d ea eb ec ed (suc (suc zero)) h = ec
each_of_four f a b c d ea eb ec ed (suc (suc (suc zero))) h = ed
each_of_four f a b c d ea eb ec ed (suc (suc (suc (suc k)))) h = absurd (omega arith)

-- the two sums and differences of a pair, where it was folded once
module _ (v u w z x y : ℕ) (small : w < PRIME) (one : (w * z) % PRIME ≡ 1) (ex : x ≡ (v + w * u) % PRIME) (ey : y ≡ (v + (PRIME - w) * u) % PRIME) where
  once : (n : ℕ) → n % PRIME ≡ (1 * n) % PRIME
  once n = ap (λ m. m % PRIME) (sym (one-mul n))

  pub pair_sum : join_front x y ≡ (2 * v) % PRIME
  unfolding once
  pair_sum = sum_of_folds 1 v u w x y small (ex ∙ once (v + w * u)) (ey ∙ once (v + (PRIME - w) * u))

  pub pair_difference : join_back z x y ≡ (2 * u) % PRIME
  unfolding once
  pair_difference = difference_of_folds 1 v u w z x y small one (ex ∙ once (v + w * u)) (ey ∙ once (v + (PRIME - w) * u))

-- what is at a place of the remainders of four coefficients
pub four_joined : (w v zs : ℕ → ℕ) (node : ℕ) (xs : List ℕ) (a b c d first second third fourth : ℕ) → length xs ≡ 4
    → ((i : ℕ) → w i < PRIME)
    → (w node * zs node) % PRIME ≡ 1
    → (w (2 * node) * zs (2 * node)) % PRIME ≡ 1
    → (w (2 * node + 1) * zs (2 * node + 1)) % PRIME ≡ 1
    → xs ≡ remainders w 2 node v
    → a ≡ join_front (get_or xs 0 0) (get_or xs 1 0)
    → b ≡ join_back (zs (2 * node)) (get_or xs 0 0) (get_or xs 1 0)
    → c ≡ join_front (get_or xs 2 0) (get_or xs 3 0)
    → d ≡ join_back (zs (2 * node + 1)) (get_or xs 2 0) (get_or xs 3 0)
    → first ≡ join_front a c
    → third ≡ join_back (zs node) a c
    → second ≡ join_front b d
    → fourth ≡ join_back (zs node) b d
    → (k : ℕ) → k < 4 → get_or (set (set (set (set xs 0 first) 1 second) 2 third) 3 fourth) k 0 ≡ (4 * v k) % PRIME
four_joined w v zs node xs a b c d first second third fourth size small top left right given ea eb ec ed e1 e3 e2 e4 k below =
    let at = λ (i : ℕ). ap (λ (l : List ℕ). get_or l i 0) given in
    let r : ℕ = w node in
    let u : ℕ → ℕ = folded (w node) 2 v in
    let t : ℕ → ℕ = folded (PRIME - w node) 2 v in
    let ha : a ≡ (2 * u 0) % PRIME = ea ∙ pair_sum (u 0) (u 1) (w (2 * node)) (zs (2 * node)) _ _ (small (2 * node)) left (at 0) (at 1) in
    let hb : b ≡ (2 * u 1) % PRIME = eb ∙ pair_difference (u 0) (u 1) (w (2 * node)) (zs (2 * node)) _ _ (small (2 * node)) left (at 0) (at 1) in
    let hc : c ≡ (2 * t 0) % PRIME = ec ∙ pair_sum (t 0) (t 1) (w (2 * node + 1)) (zs (2 * node + 1)) _ _ (small (2 * node + 1)) right (at 2) (at 3) in
    let hd : d ≡ (2 * t 1) % PRIME = ed ∙ pair_difference (t 0) (t 1) (w (2 * node + 1)) (zs (2 * node + 1)) _ _ (small (2 * node + 1)) right (at 2) (at 3) in
    ap (λ (l : List ℕ). get_or l k 0) (four_set xs first second third fourth size)
    ∙ each_of_four (λ i. (4 * v i) % PRIME) first second third fourth
    (e1 ∙ sum_of_folds 2 (v 0) (v 2) r a c (small node) ha hc)
    (e2 ∙ sum_of_folds 2 (v 1) (v 3) r b d (small node) hb hd)
    (e3 ∙ difference_of_folds 2 (v 0) (v 2) r (zs node) a c (small node) top ha hc)
    (e4 ∙ difference_of_folds 2 (v 1) (v 3) r (zs node) b d (small node) top hb hd)
    k below
