-- What a polynomial is kept as where others are multiplied by it.
use Rattle.std.specs.Prelude.{ℕ, ◌*◌, ◌^◌, List, slice_index}
use Rattle.number_transform.specs.Remainders.{remainders}
use Rattle.number_transform.specs.declared.multiplier.TheConstants.{HALF}
use Rattle.number_transform.specs.Roots.{root_table}

-- the remainders of the polynomial, divided by the number of its coefficients
unfoldable pub factor_of : ℕ → List ℕ → List ℕ
factor_of levels b =
    remainders (slice_index root_table) levels 1 (λ k. HALF ^ levels * slice_index b k)
