-- What polynomials leave modulo the linear factors of x ^ n + 1, where n is a power of two and
-- numbers count modulo a prime.
use Rattle.std.specs.Prelude.{◌≡◌, ℕ, zero, suc, ◌+◌, ◌-◌, ◌*◌, ◌%◌, ◌^◌, ◌<◌, List, [], ◌∷◌, ◌++◌}
use Rattle.number_transform.specs.declared.field.TheConstants.{PRIME}
use Rattle.number_transform.specs.Products.{folded}

-- w is a tree of square roots: w 0 is 1, and below the node i stand a root of w i, at 2 * i, and
-- one of its negative, at 2 * i + 1
pub record AreRoots (w : ℕ → ℕ) (size : ℕ) : Type 0 where
  pub start : w 0 ≡ 1
  pub left : (i : ℕ) → 2 * i < size → (w (2 * i) * w (2 * i)) % PRIME ≡ w i % PRIME
  pub right :
      (i : ℕ) → 2 * i + 1 < size → (w (2 * i + 1) * w (2 * i + 1)) % PRIME ≡ (PRIME - w i) % PRIME
  pub small : (i : ℕ) → w i < PRIME

-- z holds the inverses of the roots w
pub record AreInverses (w z : ℕ → ℕ) (size : ℕ) : Type 0 where
  pub one : (i : ℕ) → i < size → (w i * z i) % PRIME ≡ 1
  pub small : (i : ℕ) → w i < PRIME

-- the remainders below a node of a polynomial v of 2 ^ d coefficients: with the root r there,
-- x ^ 2 ^ d - r * r is the product of x ^ 2 ^ (d - 1) - r and x ^ 2 ^ (d - 1) + r
abbrev pub remainders : (ℕ → ℕ) → ℕ → ℕ → (ℕ → ℕ) → List ℕ
remainders w zero node v = (v 0 % PRIME) ∷ []
remainders w (suc d) node v =
    remainders w d (2 * node) (folded (w node) (2 ^ d) v)
    ++ remainders w d (2 * node + 1) (folded (PRIME - w node) (2 ^ d) v)

-- the products of residues, place by place
abbrev pub products : List ℕ → List ℕ → List ℕ
products [] ys = []
products (x ∷ xs) [] = []
products (x ∷ xs) (y ∷ ys) = (x * y) % PRIME ∷ products xs ys
