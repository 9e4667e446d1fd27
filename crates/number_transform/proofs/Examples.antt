-- The definitions on small values.
use Rattle.std.proofs.Common.{◌≡◌, refl, ◌-◌, ◌%◌, slice_index, [], ◌∷◌}
use Rattle.number_transform.specs.declared.field.TheConstants.{PRIME}
use Rattle.number_transform.specs.Products.{value, product, folded}
use Rattle.number_transform.specs.Remainders.{remainders, products}

-- 7 + 5 x + 3 x ^ 2 at 10
at_ten : value 3 (slice_index (7 ∷ 5 ∷ 3 ∷ [])) 10 ≡ 357
at_ten = refl

-- (1 + 2 x) (3 + 4 x) is 3 - 8 + 10 x modulo x ^ 2 + 1
first_place : product (PRIME - 1) 2 (slice_index (1 ∷ 2 ∷ [])) (slice_index (3 ∷ 4 ∷ [])) 0 % PRIME ≡ PRIME - 5
first_place = refl

second_place : product (PRIME - 1) 2 (slice_index (1 ∷ 2 ∷ [])) (slice_index (3 ∷ 4 ∷ [])) 1 % PRIME ≡ 10
second_place = refl

-- 7 + 5 x + 3 x ^ 2 + 2 x ^ 3 is 7 + 30 + (5 + 20) x modulo x ^ 2 - 10
two_folds : folded 10 2 (slice_index (7 ∷ 5 ∷ 3 ∷ 2 ∷ [])) 1 ≡ 25
two_folds = refl

-- 3 + 4 x modulo x - 5 and modulo x + 5
two_remainders : remainders (λ _. 5) 1 1 (slice_index (3 ∷ 4 ∷ [])) ≡ 23 ∷ (PRIME - 17) ∷ []
two_remainders = refl

place_by_place : products (2 ∷ (PRIME - 1) ∷ []) (5 ∷ 7 ∷ []) ≡ 10 ∷ (PRIME - 7) ∷ []
place_by_place = refl
