-- Laws on products of polynomials.
use Rattle.std.specs.Prelude.{◌≡◌, ℕ, ◌+◌, ◌*◌, ◌%◌, ◌^◌, ◌<◌, ◌≤◌}
use Rattle.number_transform.specs.declared.field.TheConstants.{PRIME}
use Rattle.number_transform.specs.Products.{value, product, folded}
use Rattle.number_transform.specs.Remainders.{AreRoots, remainders, products}

-- the value of a product modulo x ^ n - c at a number whose n-th power is c
abbrev pub ProductMultipliesValues : Type 0
ProductMultipliesValues =
    (n x : ℕ) (a b : ℕ → ℕ) → value n (product (x ^ n) n a b) x ≡ value n a x * value n b x

-- a product modulo x ^ 2 m - w ^ 2, taken modulo x ^ m - w
abbrev pub FoldingMultiplies : Type 0
FoldingMultiplies =
    (w m : ℕ) (a b : ℕ → ℕ) (k : ℕ)
    → k < m
    → folded w m (product (w * w) (m + m) a b) k ≡ product w m (folded w m a) (folded w m b) k

-- the remainders of a product modulo x ^ 2 ^ d - c, below a node whose root is one of c
abbrev pub RemaindersMultiply : Type 0
RemaindersMultiply =
    (w : ℕ → ℕ) (size d node c : ℕ) (a b : ℕ → ℕ)
    → AreRoots w size
    → 0 < node
    → (node + 1) * 2 ^ d ≤ 2 * size
    → (0 < d → (w node * w node) % PRIME ≡ c % PRIME)
    → remainders w d node (product c (2 ^ d) a b)
    ≡ products (remainders w d node a) (remainders w d node b)
