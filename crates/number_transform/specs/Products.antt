-- Polynomials whose coefficients are whole numbers. One is given by a function: at i stands the
-- coefficient of x ^ i.
use Rattle.std.specs.Prelude.{ℕ, zero, suc, ◌+◌, ◌-◌, ◌*◌, ◌%◌, ◌^◌, nat_le, if◌then◌else◌, List, map, slice_index}
use Rattle.std.specs.List.{range_with_len}
use Rattle.number_transform.specs.declared.field.TheConstants.{PRIME}

-- the sum of f i for i < n
abbrev pub total : ℕ → (ℕ → ℕ) → ℕ
total zero f = 0
total (suc n) f = total n f + f n

-- the value at x of a polynomial of n coefficients
abbrev pub value : ℕ → (ℕ → ℕ) → ℕ → ℕ
value n a x = total n (λ i. a i * x ^ i)

-- the coefficient at k of x ^ i times b, modulo x ^ n - c, where b has n coefficients
abbrev pub shifted : ℕ → ℕ → (ℕ → ℕ) → ℕ → ℕ → ℕ
shifted c n b i k = if nat_le i k then b (k - i) else c * b (n + k - i)

-- the coefficient at k of a times b, modulo x ^ n - c, where both have n coefficients
abbrev pub product : ℕ → ℕ → (ℕ → ℕ) → (ℕ → ℕ) → ℕ → ℕ
product c n a b k = total n (λ i. a i * shifted c n b i k)

-- the coefficient at k of v modulo x ^ m - w, where v has 2 m coefficients
abbrev pub folded : ℕ → ℕ → (ℕ → ℕ) → ℕ → ℕ
folded w m v k = v k + w * v (m + k)

-- the product of two lists of n coefficients modulo x ^ n + 1, in residues modulo the prime
abbrev pub product_list : ℕ → List ℕ → List ℕ → List ℕ
product_list n a b =
    map (λ k. product (PRIME - 1) n (slice_index a) (slice_index b) k % PRIME) (range_with_len 0 n)
