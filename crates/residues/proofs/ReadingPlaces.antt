-- The places of a reading are those of a run.
use Rattle.std.proofs.Common.{◌≡◌, ℕ, ◌+◌, ◌-◌, ◌*◌, ◌/◌, ◌<◌, ◌≤◌, List, [], ◌∷◌, ◌⊎◌, length, map, min, get_or, inl, inr, refl, ap, sym, ◌∙◌, arith}
use Rattle.std.specs.List.{range_with_len}
use Rattle.std.specs.Int.{div_ceil}
use Rattle.std.proofs.Math.Nat.{mul-le-mul_right, div-mul-le_self, div-eq_of_lt}
use Rattle.std.proofs.lemmas.Bool.{cases_lt}
use Rattle.std.proofs.lemmas.Grind.{div_ceil_times}
use Rattle.std.proofs.lemmas.List.FromFn.{length-map-range_with_len, get_or-map-range_with_len}
use Rattle.model_setup.specs.declared.residue.ResidueKind.{ResidueKind}
use Rattle.model_setup.specs.declared.residue.ResidueKind.TheVariants.{Spread, InRow, Interleaved}
use Rattle.model_setup.specs.ResidueDecoding.{reading_places, spread_places, row_places}
use Rattle.residues.specs.Layout.{run_places}

-- ---- the kinds

are_spread : (kind : ResidueKind) (first size dimensions : ℕ) → kind ≡ Spread → reading_places kind first size dimensions ≡ spread_places first size dimensions
unfolding reading_places
are_spread kind first size dimensions e = ap (λ k. reading_places k first size dimensions) e

are_in_row : (kind : ResidueKind) (first size dimensions : ℕ) → (kind ≡ InRow) ⊎ (kind ≡ Interleaved) → reading_places kind first size dimensions ≡ row_places first size dimensions
unfolding reading_places
are_in_row kind first size dimensions (inl e) = ap (λ k. reading_places k first size dimensions) e
are_in_row kind first size dimensions (inr e) = ap (λ k. reading_places k first size dimensions) e

-- ---- how many readings there are

pub spread_count : (kind : ResidueKind) (first size dimensions : ℕ) → kind ≡ Spread → length (reading_places kind first size dimensions) ≡ size / dimensions
spread_count kind first size dimensions e =
    ap length (are_spread kind first size dimensions e)
    ∙ length-map-range_with_len (λ i. map (λ j. first + i + j * (size / dimensions)) (range_with_len 0 dimensions)) 0 (size / dimensions)

pub row_count : (kind : ResidueKind) (first size dimensions : ℕ) → (kind ≡ InRow) ⊎ (kind ≡ Interleaved) → length (reading_places kind first size dimensions) ≡ div_ceil size dimensions
row_count kind first size dimensions e =
    ap length (are_in_row kind first size dimensions e)
    ∙ length-map-range_with_len (λ i. map (λ j. first + i * dimensions + j) (range_with_len 0 (min dimensions (size - i * dimensions)))) 0 (div_ceil size dimensions)

-- ---- a reading

map_agrees : {A B : Type 0} (f g : A → B) → ((x : A) → f x ≡ g x) → (xs : List A) → map f xs ≡ map g xs
map_agrees f g h [] = refl
map_agrees f g h (x ∷ xs) = ap (λ y. y ∷ map f xs) (h x) ∙ ap (λ ys. g x ∷ ys) (map_agrees f g h xs)

-- steps of one
ones : (first count : ℕ) → run_places first 1 count ≡ map (λ j. first + j) (range_with_len 0 count)
ones first count = map_agrees (λ (j : ℕ). first + j * 1) (λ (j : ℕ). first + j) (λ j. omega arith) (range_with_len 0 count)

module _ (kind : ResidueKind) (first size dimensions reading : ℕ) (h : reading < length (reading_places kind first size dimensions)) where
  spread_below : kind ≡ Spread → reading < size / dimensions
  spread_below e = rw (spread_count kind first size dimensions e) at h

  pub spread_run : kind ≡ Spread → run_places (first + reading) (size / dimensions) dimensions ≡ get_or (reading_places kind first size dimensions) reading []
  spread_run e =
      sym (ap (λ ps. get_or ps reading []) (are_spread kind first size dimensions e)
      ∙ get_or-map-range_with_len (λ i. map (λ j. first + i + j * (size / dimensions)) (range_with_len 0 dimensions)) 0 (size / dimensions) reading reading [] (spread_below e) (omega arith))

  -- value j of a reading stands before the end of the partition
  pub spread_within : (j : ℕ) → kind ≡ Spread → j < dimensions → reading + j * (size / dimensions) < size
  spread_within j e k =
      let below = spread_below e in
      let rows = mul-le-mul_right (size / dimensions) k in
      let all = div-mul-le_self size dimensions in
      omega arith

  -- a partition that is read at all has as many values as the book has
  pub spread_few : kind ≡ Spread → dimensions ≤ size
  spread_few e = elim (cases_lt size dimensions) [
    | inl less ↦ let none : size / dimensions ≡ 0 = div-eq_of_lt less in let below = spread_below e in absurd (omega arith)
    | inr more ↦ more
  ]

  row_below : (kind ≡ InRow) ⊎ (kind ≡ Interleaved) → reading < div_ceil size dimensions
  row_below e = rw (row_count kind first size dimensions e) at h

  pub row_run : (kind ≡ InRow) ⊎ (kind ≡ Interleaved)
      → run_places (first + reading * dimensions) 1 (min dimensions (size - reading * dimensions)) ≡ get_or (reading_places kind first size dimensions) reading []
  row_run e =
      ones (first + reading * dimensions) (min dimensions (size - reading * dimensions))
      ∙ sym (ap (λ ps. get_or ps reading []) (are_in_row kind first size dimensions e)
      ∙ get_or-map-range_with_len (λ i. map (λ j. first + i * dimensions + j) (range_with_len 0 (min dimensions (size - i * dimensions)))) 0 (div_ceil size dimensions) reading reading [] (row_below e) (omega arith))

  -- a row's reading begins before the end of the partition
  pub row_within : (kind ≡ InRow) ⊎ (kind ≡ Interleaved) → 0 < dimensions → reading * dimensions < size
  row_within e some =
      let below = row_below e in
      let rows = mul-le-mul_right dimensions below in
      let all = div_ceil_times size dimensions some in
      omega (arith, all.1)
