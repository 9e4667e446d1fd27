-- Lists of residues, and what folding does to two of them.
use Rattle.std.specs.Prelude.{ℕ, ◌+◌, ◌-◌, ◌*◌, ◌%◌, ◌<◌, List, slice_index}
use Rattle.number_transform.specs.declared.field.TheConstants.{PRIME}

-- each number of a list is below the prime
abbrev pub AreResidues : List ℕ → Type 0
AreResidues xs = (k : ℕ) → slice_index xs k < PRIME

-- what two coefficients leave modulo x ^ m - root, and modulo x ^ m + root
abbrev pub fold_front : ℕ → ℕ → ℕ → ℕ
fold_front root front back = (front + root * back) % PRIME

abbrev pub fold_back : ℕ → ℕ → ℕ → ℕ
fold_back root front back = (front + (PRIME - root) * back) % PRIME

-- twice the two coefficients again
abbrev pub join_front : ℕ → ℕ → ℕ
join_front front back = (front + back) % PRIME

abbrev pub join_back : ℕ → ℕ → ℕ → ℕ
join_back inverse front back = ((front + (PRIME - back)) % PRIME * inverse) % PRIME
