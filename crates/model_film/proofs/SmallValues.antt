-- The values of a film's blocks are within their limit.
use Rattle.std.proofs.Common.{◌≡◌, ◌≤◌, ◌<◌, ℕ, zero, suc, ◌+◌, ◌*◌, ◌/◌, ◌%◌, ◌^◌, ℤ, pos, negsuc, ◌+ℤ◌, ◌*ℤ◌, neg_ℤ, unsigned_abs, Bool, true, false, cond, List, [], ◌∷◌, length, map, get_or, Option, Some, None, inl, inr, refl, sym, ap, subst, arith}
use Rattle.std.specs.Prelude.{slice_index, slice_index_or, nat_lt, ◌-◌}
use Rattle.std.specs.Int.{int_shr}
use Rattle.std.specs.List.{All, range_with_len}
use Rattle.std.proofs.Math.IntN.{sub_ℕ}
use Rattle.std.proofs.Math.Nat.{mul-le-mul, le_refl}
use Rattle.std.proofs.lemmas.Bool.{cases_lt}
use Rattle.std.proofs.lemmas.Bool.Decides.{nat_tests}
use Rattle.std.proofs.lemmas.Int.{ints, clamps, unsigned_abs-mul}
use Rattle.std.proofs.lemmas.Nat.{pow_pos, div_below}
use Rattle.std.proofs.lemmas.List.Elements.{All-head, All-tail, All-map, All-replicate}
use Rattle.model_fixed.specs.Fixed.{clamp, shift_down}
use Rattle.model_synthesis.specs.declared.window_form.WindowForm.{WindowForm}
use Rattle.model_synthesis.specs.declared.constants.TheConstants.{COSINE_COUNT}
use Rattle.model_synthesis.specs.Tables.{ConstantTables, AreTables, decibel, first_quarter, wave, cosq}
use Rattle.model_synthesis.specs.Coupling.{channel}
use Rattle.model_synthesis.specs.Spectrum.{IsBin, shaped_bin, shaped}
use Rattle.model_synthesis.specs.Transform.{IsBlockValue, sum_below, steps_of, sum_at, transformed}
use Rattle.model_synthesis.specs.Windows.{window_at, windowed_at, windowed}
use Rattle.model_synthesis.specs.Overlaps.{value_at}
use Rattle.model_synthesis.proofs.WindowParts.{windows_are_small}
use Rattle.model_block.specs.PacketBlocks.{spectrum_of, channel_values, all_values}
use Rattle.model_film.proofs.ResidueSizes.{AreSized}
use Rattle.model_film.proofs.BlockSizes.{spectrum_length}

-- ---- whole numbers

abs_sub : (a b : ℕ) → unsigned_abs (sub_ℕ a b) ≤ a + b
abs_sub a b = grind (arith, nat_tests)

abs_sum : (a b : ℤ) → unsigned_abs (a +ℤ b) ≤ unsigned_abs a + unsigned_abs b
abs_sum (pos a) (pos b) = omega arith
abs_sum (negsuc a) (negsuc b) = omega arith
abs_sum (pos a) (negsuc b) = abs_sub a (suc b)
abs_sum (negsuc a) (pos b) = let h = abs_sub b (suc a) in omega (arith, h)

abs_neg : (m : ℕ) (n : ℕ) → n ≤ m → unsigned_abs (neg_ℤ (pos n)) ≤ m
abs_neg m zero le = omega arith
abs_neg m (suc n) le = le

quotient : (z : ℤ) (m k : ℕ) → unsigned_abs z ≤ m * 2 ^ k → unsigned_abs (int_shr z k) ≤ m
quotient (pos n) m k h = let less : n / 2 ^ k < m + 1 = div_below n (2 ^ k) (m + 1) (pow_pos k) (let some = pow_pos k in omega (arith, h, some)) in omega (arith, less)
quotient (negsuc n) m k h = let less : n / 2 ^ k < m = div_below n (2 ^ k) m (pow_pos k) (omega (arith, h)) in omega (arith, less)

clamped : (m : ℕ) (z : ℤ) → unsigned_abs (clamp m z) ≤ m
clamped m z = grind (arith, ints, clamps)

product : (a b : ℤ) (m n : ℕ) → unsigned_abs a ≤ m → unsigned_abs b ≤ n → unsigned_abs (a *ℤ b) ≤ m * n
product a b m n la lb = subst (λ k. k ≤ m * n) (sym (unsigned_abs-mul a b)) (mul-le-mul la lb)

-- ---- any place of a list

at_any : {X : Type 0} (P : X → Type 0) (xs : List X) (d : X) → All P xs → P d → (k : ℕ) → P (get_or xs k d)
at_any P [] d all last k = last
at_any P (x ∷ xs) d all last zero = All-head P x xs all
at_any P (x ∷ xs) d all last (suc k) = at_any P xs d (All-tail P x xs all) last k

each_of : {X : Type 0} (P : X → Type 0) (f : ℕ → X) (a n : ℕ) → ((j : ℕ) → P (f j)) → All P (map f (range_with_len a n))
each_of P f a n h = All-map P f (range_with_len a n) (λ k d lt. h (slice_index_or (range_with_len a n) k d))

-- ---- the sums of a block

quarter : (b : Bool) (x y : ℤ) (m : ℕ) → unsigned_abs x ≤ m → unsigned_abs y ≤ m → unsigned_abs (cond b x y) ≤ m
quarter true x y m first second = first
quarter false x y m first second = second

sum_small : (n m : ℕ) (f : ℕ → ℤ) → ((k : ℕ) → unsigned_abs (f k) ≤ m) → unsigned_abs (sum_below n f) ≤ n * m
sum_small zero m f h = omega arith
sum_small (suc n) m f h = omega (arith, abs_sum (sum_below n f) (f n), sum_small n m f h, h n)

past_end : {X : Type 0} (xs : List X) (k : ℕ) (d : X) → length xs ≤ k → get_or xs k d ≡ d
past_end [] k d le = refl
past_end (x ∷ xs) zero d le = absurd (omega (arith, le))
past_end (x ∷ xs) (suc k) d le = past_end xs k d (omega (arith, le))

-- no channel is longer, nor is one that is not there
short_channel : (count bins : ℕ) (residues : List (List ℤ)) (c : ℕ) → AreSized count bins residues → bins ≤ 4096 → length (channel residues c) ≤ 4096
short_channel count bins residues c sized few =
    elim (cases_lt c count) [
      | inl low ↦ omega (arith, sized.sizes c low, few)
      | inr high ↦ let none : length (channel residues c) ≡ 0 = ap length (past_end residues c [] (omega (arith, high, sized.number))) in omega (arith, none)
    ]

module _ (tables : ConstantTables) (are : AreTables tables) where
  cosine_small : (size u : ℕ) → unsigned_abs (first_quarter tables.cosines size u) ≤ 2 ^ tables.scale
  cosine_small size u = are.cosines (u * (COSINE_COUNT / size))

  turned_small : (size u : ℕ) → unsigned_abs (neg_ℤ (first_quarter tables.cosines size u)) ≤ 2 ^ tables.scale
  turned_small size u = abs_neg (2 ^ tables.scale) (slice_index tables.cosines (u * (COSINE_COUNT / size))) (are.cosines (u * (COSINE_COUNT / size)))

  cosq_small : (size t : ℕ) → unsigned_abs (cosq tables size t) ≤ 2 ^ tables.scale
  unfolding wave
  cosq_small size t =
      let m = 2 ^ tables.scale in
      let u = t % (4 * size) in
      let first = first_quarter tables.cosines size in
      quarter (nat_lt u size) (first u) _ m (cosine_small size u)
      (quarter (nat_lt u (2 * size)) (neg_ℤ (first (2 * size - u))) _ m (turned_small size (2 * size - u))
      (quarter (nat_lt u (3 * size)) (neg_ℤ (first (u - 2 * size))) _ m (turned_small size (u - 2 * size))
      (cosine_small size (4 * size - u))))

  sum_at_small : (size : ℕ) (spectrum : List ℤ) (i : ℕ) → All IsBin spectrum → size / 2 ≤ 4096 → unsigned_abs (sum_at tables size spectrum i) ≤ 2 ^ 39 * 2 ^ tables.scale
  unfolding sum_at
  sum_at_small size spectrum i bins few =
      let scale = 2 ^ tables.scale in
      let sum = sum_small (size / 2) (2 ^ 27 * scale) (λ k. slice_index_or spectrum k (pos 0) *ℤ cosq tables size (steps_of size i k))
      (λ k. product (slice_index_or spectrum k (pos 0)) (cosq tables size (steps_of size i k)) (2 ^ 27) scale (at_any IsBin spectrum (pos 0) bins (omega arith) k) (cosq_small size (steps_of size i k))) in
      let most : size / 2 * (2 ^ 27 * scale) ≤ 4096 * (2 ^ 27 * scale) = mul-le-mul few (le_refl (2 ^ 27 * scale)) in
      omega (arith, sum, most)

  transformed_small : (spectrum : List ℤ) → All IsBin spectrum → length spectrum ≤ 4096 → All IsBlockValue (transformed tables spectrum)
  unfolding transformed
  transformed_small spectrum bins few =
      let size = 2 * length spectrum in
      each_of IsBlockValue (λ i. shift_down (sum_at tables size spectrum i) tables.scale) 0 size
      (λ i. quotient (sum_at tables size spectrum i) (2 ^ 39) tables.scale (sum_at_small size spectrum i bins (omega (arith, few))))

  windowed_small : (form : WindowForm) (values : List ℤ) → All IsBlockValue values → All IsBlockValue (windowed tables form values)
  unfolding windowed
  windowed_small form values small =
      each_of IsBlockValue (windowed_at tables form values) 0 (length values)
      (λ i. quotient (value_at values i *ℤ pos (window_at tables form i)) (2 ^ 39) tables.scale
      (product (value_at values i) (pos (window_at tables form i)) (2 ^ 39) (2 ^ tables.scale) (at_any IsBlockValue values (pos 0) small (omega arith) i) (windows_are_small tables form i are)))

  spectrum_small : (residue : List ℤ) (curve : Option (List ℕ)) → All IsBin (spectrum_of tables residue curve)
  unfolding shaped
  spectrum_small residue None = All-replicate IsBin (length residue) (pos 0) (omega arith)
  spectrum_small residue (Some curve) =
      each_of IsBin (λ k. shaped_bin tables (slice_index_or residue k (pos 0)) (slice_index curve k)) 0 (length residue) (λ k. clamped (2 ^ 27) (shift_down (slice_index_or residue k (pos 0) *ℤ pos (decibel tables (slice_index curve k))) 26))

  -- the values of a channel with this residue and this curve
  values_small : (form : WindowForm) (residue : List ℤ) (curve : Option (List ℕ)) → length residue ≤ 4096 → All IsBlockValue (channel_values tables form residue curve)
  values_small form residue curve few =
      let spectrum = spectrum_of tables residue curve in
      windowed_small form (transformed tables spectrum) (transformed_small spectrum (spectrum_small residue curve) (omega (arith, spectrum_length tables residue curve, few)))

  pub all_small : (form : WindowForm) (count bins : ℕ) (residues : List (List ℤ)) (curves : List (Option (List ℕ))) → AreSized count bins residues → bins ≤ 4096 → All (All IsBlockValue) (all_values tables form residues curves)
  unfolding all_values
  all_small form count bins residues curves sized few =
      each_of (All IsBlockValue) (λ c. channel_values tables form (channel residues c) (slice_index_or curves c None)) 0 (length curves)
      (λ c. values_small form (channel residues c) (slice_index_or curves c None) (short_channel count bins residues c sized few))
