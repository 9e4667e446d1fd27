-- Halves of polynomials and of their remainders.
use Rattle.std.proofs.Common.{◌≡◌, ℕ, zero, suc, ◌+◌, ◌-◌, ◌*◌, ◌%◌, ◌^◌, ◌<◌, ◌≤◌, ◌∙◌, List, [], ◌∷◌, ◌++◌, length, get_or, take, drop, sym, ap, refl, inl, inr, arith}
use Rattle.std.proofs.Math.Nat.{mul-le-mul_left, mod-mod, mod-lt}
use Rattle.std.proofs.lemmas.Nat.{pow_pos}
use Rattle.std.proofs.lemmas.Bool.{cases_lt}
use Rattle.std.proofs.lemmas.List.{get_or-take, get_or-drop, take_at, drop_at, get_or_append_left, get_or-append_right}
use Rattle.number_transform.specs.declared.field.TheConstants.{PRIME}
use Rattle.number_transform.specs.Products.{folded}
use Rattle.number_transform.specs.Remainders.{remainders, products}
use Rattle.number_transform.proofs.RemainderLaws.{double, length-remainders, wide_room, below_room, beside_room}
use Rattle.number_transform.proofs.Differences.{sum_of_folds, difference_of_folds}

pub double_from : (levels : ℕ) → 0 < levels → 2 ^ levels ≡ 2 ^ (levels - 1) + 2 ^ (levels - 1)
double_from zero h = absurd (omega arith)
double_from (suc d) h =
    let less : suc d - 1 ≡ d = omega arith in
    rw less (double d)

-- the places of a node and of those below it in a table of the roots
pub record Rooms (node levels size : ℕ) : Type 0 where
  pub here : node < size
  pub front : (2 * node + 1) * 2 ^ (levels - 1) ≤ 2 * size
  pub back : (2 * node + 1 + 1) * 2 ^ (levels - 1) ≤ 2 * size

pub rooms : (node levels size : ℕ) → 0 < levels → (node + 1) * 2 ^ levels ≤ 2 * size → Rooms node levels size
rooms node zero size h room = absurd (omega arith)
rooms node (suc d) size h room =
    let less : suc d - 1 ≡ d = omega arith in
    let half : (node + 1) * 2 ^ d ≤ size = (wide_room node d size room).0 in
    let one : 1 ≤ 2 ^ d = pow_pos d in
    let least : (node + 1) * 1 ≤ (node + 1) * 2 ^ d = mul-le-mul_left (node + 1) one in
    record {
      here = omega arith;
      front = rw less (below_room node (2 ^ d) size half);
      back = rw less (beside_room node (2 ^ d) size half);
    }

-- what two halves folded together hold
pub folded_parts : (r m half : ℕ) (xs front back : List ℕ) (k new : ℕ) → half ≡ m → front ≡ take half xs → back ≡ drop half xs → k < m
    → new ≡ (get_or front k 0 + r * get_or back k 0) % PRIME → new % PRIME ≡ folded r m (λ i. get_or xs i 0) k % PRIME
folded_parts r m half xs front back k new e ef eb h en =
    let short : k < half = omega arith in
    let near : get_or front k 0 ≡ get_or xs k 0 = ap (λ l. get_or l k 0) ef ∙ get_or-take half xs k 0 short in
    let far : get_or back k 0 ≡ get_or xs (m + k) 0 = ap (λ l. get_or l k 0) eb ∙ (get_or-drop half xs k 0 ∙ ap (λ n. get_or xs (n + k) 0) e) in
    ap (λ x. x % PRIME) (en ∙ (ap (λ x. (x + r * get_or back k 0) % PRIME) near ∙ ap (λ x. (get_or xs k 0 + r * x) % PRIME) far)) ∙ mod-mod (folded r m (λ i. get_or xs i 0) k) PRIME

-- the halves of the remainders of a polynomial
pub front_of : (w : ℕ → ℕ) (levels node half : ℕ) (v : ℕ → ℕ) (xs front : List ℕ) → 0 < levels → xs ≡ remainders w levels node v → half ≡ 2 ^ (levels - 1) → front ≡ take half xs
    → front ≡ remainders w (levels - 1) (2 * node) (folded (w node) (2 ^ (levels - 1)) v)
front_of w zero node half v xs front positive e eh ef = absurd (omega arith)
front_of w (suc d) node half v xs front positive e eh ef =
    let less : suc d - 1 ≡ d = omega arith in
    let size : half ≡ 2 ^ d = eh ∙ ap (λ n. 2 ^ n) less in
    rw less (ef ∙ (ap (λ l. take half l) e ∙ take_at (remainders w d (2 * node) (folded (w node) (2 ^ d) v)) _ half (length-remainders w d _ _ ∙ sym size)))

pub back_of : (w : ℕ → ℕ) (levels node half : ℕ) (v : ℕ → ℕ) (xs back : List ℕ) → 0 < levels → xs ≡ remainders w levels node v → half ≡ 2 ^ (levels - 1) → back ≡ drop half xs
    → back ≡ remainders w (levels - 1) (2 * node + 1) (folded (PRIME - w node) (2 ^ (levels - 1)) v)
back_of w zero node half v xs back positive e eh eb = absurd (omega arith)
back_of w (suc d) node half v xs back positive e eh eb =
    let less : suc d - 1 ≡ d = omega arith in
    let size : half ≡ 2 ^ d = eh ∙ ap (λ n. 2 ^ n) less in
    rw less (eb ∙ (ap (λ l. drop half l) e ∙ drop_at (remainders w d (2 * node) (folded (w node) (2 ^ d) v)) _ half (length-remainders w d _ _ ∙ sym size)))

pub products_by_place : (xs ys zs : List ℕ) → length ys ≡ length xs → length zs ≡ length xs → ((k : ℕ) → k < length xs → get_or zs k 0 ≡ (get_or xs k 0 * get_or ys k 0) % PRIME) → zs ≡ products xs ys
products_by_place [] ys [] e f h = refl
products_by_place [] ys (z ∷ zs) e f h = absurd (omega arith)
products_by_place (x ∷ xs) [] zs e f h = absurd (omega arith)
products_by_place (x ∷ xs) (y ∷ ys) [] e f h = absurd (omega arith)
products_by_place (x ∷ xs) (y ∷ ys) (z ∷ zs) e f h =
    ap (λ n. n ∷ zs) (h 0 (omega arith)) ∙ ap (λ l. (x * y) % PRIME ∷ l) (products_by_place xs ys zs (omega arith) (omega arith) (λ k below. h (suc k) (omega arith)))

pub products_small : (xs ys : List ℕ) (k : ℕ) → get_or (products xs ys) k 0 < PRIME
products_small [] ys k = omega arith
products_small (x ∷ xs) [] k = omega arith
products_small (x ∷ xs) (y ∷ ys) zero = mod-lt (x * y) (omega arith)
products_small (x ∷ xs) (y ∷ ys) (suc k) = products_small xs ys k

-- two halves taken apart
pub joined : (w v : ℕ → ℕ) (z levels node : ℕ) (low high front back : List ℕ) → 0 < levels → w node < PRIME → (w node * z) % PRIME ≡ 1
    → length low ≡ 2 ^ (levels - 1) → length front ≡ 2 ^ (levels - 1)
    → ((i : ℕ) → i < 2 ^ (levels - 1) → get_or low i 0 ≡ (2 ^ (levels - 1) * folded (w node) (2 ^ (levels - 1)) v i) % PRIME)
    → ((i : ℕ) → i < 2 ^ (levels - 1) → get_or high i 0 ≡ (2 ^ (levels - 1) * folded (PRIME - w node) (2 ^ (levels - 1)) v i) % PRIME)
    → ((i : ℕ) → i < length low → get_or front i 0 ≡ (get_or low i 0 + get_or high i 0) % PRIME)
    → ((i : ℕ) → i < length low → get_or back i 0 ≡ ((get_or low i 0 + (PRIME - get_or high i 0)) % PRIME * z) % PRIME)
    → (k : ℕ) → k < 2 ^ levels → get_or (front ++ back) k 0 ≡ (2 ^ levels * v k) % PRIME
joined w v z levels node low high front back positive small one low_size size lows highs fronts backs k below =
    let d : ℕ = levels - 1 in
    let twice : 2 ^ levels ≡ 2 ^ d + 2 ^ d = double_from levels positive in
    elim (cases_lt k (2 ^ d)) [
      | inl h ↦
          let short : k < length front = omega arith in
          let within : k < length low = omega arith in
          get_or_append_left front back 0 k short
          ∙ (fronts k within
          ∙ (sum_of_folds (2 ^ d) (v k) (v (2 ^ d + k)) (w node) _ _ small (lows k h) (highs k h)
          ∙ ap (λ n. (n * v k) % PRIME) (sym twice)))
      | inr h ↦
          let j : ℕ = k - 2 ^ d in
          let within : j < length low = omega arith in
          let near : j < 2 ^ d = omega arith in
          let place : 2 ^ d + j ≡ k = omega arith in
          get_or-append_right front back (2 ^ d) k 0 size h
          ∙ (backs j within
          ∙ (difference_of_folds (2 ^ d) (v j) (v (2 ^ d + j)) (w node) z _ _ small one (lows j near) (highs j near)
          ∙ (ap (λ n. (n * v (2 ^ d + j)) % PRIME) (sym twice) ∙ ap (λ n. (2 ^ levels * v n) % PRIME) place)))
    ]
