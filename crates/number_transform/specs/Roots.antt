-- The tree of square roots, grown from stems.
use Rattle.std.specs.Prelude.{ℕ, ◌≡◌, ◌*◌, ◌%◌, ◌++◌, List, [], ◌∷◌, map}
use Rattle.number_transform.specs.declared.field.TheConstants.{PRIME}
use Rattle.number_transform.specs.declared.roots.TheConstants.{STEMS, INVERSE_STEMS}

-- each number times a stem
abbrev pub scaled : ℕ → List ℕ → List ℕ
scaled stem xs = map (λ x. (x * stem) % PRIME) xs

-- with each stem in turn, the numbers so far and their multiples
abbrev pub grown : List ℕ → List ℕ → List ℕ
grown [] xs = xs
grown (stem ∷ stems) xs = grown stems (xs ++ scaled stem xs)

unfoldable pub root_table : List ℕ
root_table = grown STEMS (1 ∷ [])

unfoldable pub inverse_table : List ℕ
inverse_table = grown INVERSE_STEMS (1 ∷ [])

-- all square roots, and the inverse of each in its place
pub record AreRoots (roots inverses : List ℕ) : Type 0 where
  pub grown : roots ≡ root_table
  pub inverted : inverses ≡ inverse_table
