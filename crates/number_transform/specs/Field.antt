-- Numbers modulo the prime 2 ^ 64 - 2 ^ 32 + 1.
use Rattle.std.specs.Prelude.{◌≡◌, ℕ, suc, ◌+◌, ◌-◌, ◌*◌, ◌%◌, ◌<◌, ℤ, pos, negsuc, unsigned_abs}
use Rattle.number_transform.specs.declared.field.TheConstants.{PRIME}

-- the residue of a signed number; PRIME - 1 stands for -1
abbrev pub residue_of : ℤ → ℕ
residue_of (pos n) = n % PRIME
residue_of (negsuc n) = ((PRIME - 1) * suc n) % PRIME

-- the difference of two residues, added to the second, makes the first
abbrev pub DifferenceUndoesSum : Type 0
DifferenceUndoesSum =
    (a b : ℕ) → a < PRIME → b < PRIME → ((a + (PRIME - b)) % PRIME + b) % PRIME ≡ a

-- signed numbers that are near to 0 differ where their residues do
abbrev pub SmallNumbersDiffer : Type 0
SmallNumbersDiffer =
    (y z : ℤ)
    → 2 * unsigned_abs y < PRIME
    → 2 * unsigned_abs z < PRIME
    → residue_of y ≡ residue_of z
    → y ≡ z
