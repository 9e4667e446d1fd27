-- The two sides of a window on a block.
use Rattle.std.proofs.Common.{◌≡◌, ℕ, ◌+◌, ◌-◌, ◌/◌, ◌^◌, ◌<◌, ◌≤◌, ◌∙◌, sym, ap, subst, inl, inr, List, length, take, drop, ◌++◌, ℤ, pos, to_z, of_z, w64, nat_lt, cond, arith}
use Rattle.std.specs.Prelude.{replicate, unsigned_abs}
use Rattle.std.proofs.Math.ListN.{set}
use Rattle.std.proofs.lemmas.Bool.{cases_lt, lt-ltb, le-ltb, cond-true, cond-false}
use Rattle.std.proofs.lemmas.Int.{to_z-of_z, fits_signed_from_abs}
use Rattle.std.proofs.lemmas.List.{length-replicate, length-append, length-drop, length-take, get_or-replicate, get_or_append_left, get_or-append_right, get_or-take, get_or-drop, get_or_past}
use Rattle.std.proofs.lemmas.List.FromFn.{fill_by_all}
use borrow.Rule.Slice.PartMut.{put_mid, post_of}
use Rattle.model_synthesis.specs.declared.window_form.WindowForm.{WindowForm}
use Rattle.model_synthesis.specs.Tables.{ConstantTables, slope}
use Rattle.model_synthesis.specs.Transform.{IsBlockValue}
use Rattle.model_synthesis.specs.Windows.{IsWindowForm, left_start, left_end, right_start, right_end, window_at, AreBlockValues, weighted, windowed_at, windowed}
use Rattle.model_synthesis.specs.Overlaps.{value_at}
use Rattle.model_synthesis.proofs.WindowParts.{HasQuarters, has_quarters, before, on_left, between, on_right, behind}
use Rattle.lap_window.proofs.Weights.{weighted_none, weighted_whole}
use Rattle.lap_window.proofs.Written.{IsWritten, written_more}

-- a value of a block under the right side of its window
abbrev pub fallen_at : ConstantTables → WindowForm → List ℤ → ℕ → ℤ
fallen_at tables form values i =
    cond (nat_lt i (right_start form)) (value_at values i) (windowed_at tables form values i)

-- ---- zeros

-- a value that the code keeps
pub kept : (v : ℤ) → IsBlockValue v → to_z w64 (of_z w64 v) ≡ v
kept v small = to_z-of_z w64 v (fits_signed_from_abs w64 v (let h : unsigned_abs v ≤ 2 ^ 39 = small in omega arith))

zero_small : IsBlockValue (pos 0)
zero_small = omega arith

-- zeros in place of the first values
pub zeros_first : (f : ℕ → ℤ) (old zeros : List ℤ) (start : ℕ) → zeros ≡ replicate start (pos 0) → start ≤ length old → ((i : ℕ) → i < start → f i ≡ pos 0) → AreBlockValues old → IsWritten f old start (zeros ++ drop start old)
zeros_first f old zeros start is within silent small = record {
  done = λ i low. front i low ∙ sym (silent i low);
  rest = back;
  small = λ i. elim (cases_lt i start) [
    | inl low ↦ subst IsBlockValue (sym (front i low)) zero_small
    | inr high ↦ subst IsBlockValue (sym (back i high)) (small i)
  ];
}
  where
    count : length zeros ≡ start
    count = ap length is ∙ length-replicate start (pos 0)

    front : (i : ℕ) → i < start → value_at (zeros ++ drop start old) i ≡ pos 0
    front i low =
        let n : length zeros ≡ start = count in
        get_or_append_left zeros (drop start old) (pos 0) i (omega arith)
        ∙ (ap (λ xs. value_at xs i) is ∙ get_or-replicate start i (pos 0) (pos 0) low)

    back : (i : ℕ) → start ≤ i → value_at (zeros ++ drop start old) i ≡ value_at old i
    back i high =
        let place : start + (i - start) ≡ i = omega arith in
        get_or-append_right zeros (drop start old) start i (pos 0) count high
        ∙ (get_or-drop start old (i - start) (pos 0) ∙ ap (value_at old) place)

-- zeros in place of the last values
module _ (xs zeros : List ℤ) (end count : ℕ) (is : zeros ≡ replicate count (pos 0)) (within : end + count ≡ length xs) where
  pub before_zeros : (i : ℕ) → i < end → value_at (put_mid end count xs zeros) i ≡ value_at xs i
  before_zeros i low =
      let size : length (take end xs) ≡ end = simp length-take (omega arith) in
      get_or_append_left (take end xs) (zeros ++ post_of end count xs) (pos 0) i (omega arith)
      ∙ get_or-take end xs i (pos 0) low

  pub in_zeros : (i : ℕ) → end ≤ i → value_at (put_mid end count xs zeros) i ≡ pos 0
  in_zeros i high =
      let size : length (take end xs) ≡ end = simp length-take (omega arith) in
      get_or-append_right (take end xs) (zeros ++ post_of end count xs) end i (pos 0) size high
      ∙ elim (cases_lt (i - end) count) [
        | inl low ↦
            let n : length zeros ≡ count = ap length is ∙ length-replicate count (pos 0) in
            get_or_append_left zeros (post_of end count xs) (pos 0) (i - end) (omega arith)
            ∙ (ap (λ ys. value_at ys (i - end)) is ∙ get_or-replicate count (i - end) (pos 0) (pos 0) low)
        | inr past ↦
            let n : length zeros ≡ count = ap length is ∙ length-replicate count (pos 0) in
            let none : length (post_of end count xs) ≡ 0 = simp length-drop (omega arith) in
            let all : length (zeros ++ post_of end count xs) ≡ count = simp length-append (omega arith) in
            get_or_past (zeros ++ post_of end count xs) (i - end) (pos 0) (omega arith)
      ]

  pub with_zeros_small : AreBlockValues xs → AreBlockValues (put_mid end count xs zeros)
  with_zeros_small small i = elim (cases_lt i end) [
    | inl low ↦ subst IsBlockValue (sym (before_zeros i low)) (small i)
    | inr high ↦ subst IsBlockValue (sym (in_zeros i high)) zero_small
  ]

-- ---- the left side

module _ (tables : ConstantTables) (form : WindowForm) (old : List ℤ) (is : IsWindowForm form) where
  -- before the left slope and behind the right one
  pub silent_before : (i : ℕ) → i < left_start form → windowed_at tables form old i ≡ pos 0
  silent_before i low =
      ap (weighted tables.scale (value_at old i)) (before tables form i low)
      ∙ weighted_none tables.scale (value_at old i)

  pub silent_behind : (i : ℕ) → right_end form ≤ i → windowed_at tables form old i ≡ pos 0
  silent_behind i high =
      let q : HasQuarters form = has_quarters form is in
      ap (weighted tables.scale (value_at old i)) (behind tables form i (omega arith) high)
      ∙ weighted_none tables.scale (value_at old i)

  -- one value more under the left slope
  pub rise_step : (block : List ℤ) (place scale weight : ℕ) (v : ℤ) → IsWritten (windowed_at tables form old) old (left_start form + place) block → place < form.left / 2 → length block ≡ form.size → scale ≡ tables.scale → weight ≡ slope tables (form.left / 2) place → v ≡ weighted scale (value_at block (left_start form + place)) weight → IsBlockValue v → IsWritten (windowed_at tables form old) old (left_start form + (place + 1)) (set block (left_start form + place) (to_z w64 (of_z w64 v)))
  rise_step block place scale weight v so_far low size scale-is weight-is v-is small =
      let q : HasQuarters form = has_quarters form is in
      let at : ℕ = left_start form + place in
      let here : window_at tables form at ≡ slope tables (form.left / 2) place =
      on_left tables form at (omega arith) (omega arith) ∙ ap (slope tables (form.left / 2)) (let p : at - left_start form ≡ place = omega arith in p) in
      let value : v ≡ windowed_at tables form old at =
      v-is
      ∙ (ap (λ s. weighted s (value_at block at) weight) scale-is
      ∙ (ap (λ x. weighted tables.scale x weight) (so_far.rest at (omega arith))
      ∙ ap (weighted tables.scale (value_at old at)) (weight-is ∙ sym here))) in
      let next : at + 1 ≡ left_start form + (place + 1) = omega arith in
      subst (λ n. IsWritten (windowed_at tables form old) old n (set block at (to_z w64 (of_z w64 v)))) next
      (subst (λ x. IsWritten (windowed_at tables form old) old (at + 1) (set block at x)) (sym (kept v small))
      (written_more (windowed_at tables form old) old block at v so_far (omega arith) value small))

  -- ---- the right side

  pub fallen_before : (i : ℕ) → i < right_start form → fallen_at tables form old i ≡ value_at old i
  fallen_before i low = cond-true _ _ _ (lt-ltb i (right_start form) low)

  pub fallen_behind : (i : ℕ) → right_start form ≤ i → fallen_at tables form old i ≡ windowed_at tables form old i
  fallen_behind i high = cond-false _ _ _ (le-ltb i (right_start form) high)

  -- one value more under the right slope
  pub fall_step : (block : List ℤ) (place scale weight : ℕ) (v : ℤ) → IsWritten (fallen_at tables form old) old (right_start form + place) block → place < form.right / 2 → length block ≡ form.size → scale ≡ tables.scale → weight ≡ slope tables (form.right / 2) (form.right / 2 - 1 - place) → v ≡ weighted scale (value_at block (right_start form + place)) weight → IsBlockValue v → IsWritten (fallen_at tables form old) old (right_start form + (place + 1)) (set block (right_start form + place) (to_z w64 (of_z w64 v)))
  fall_step block place scale weight v so_far low size scale-is weight-is v-is small =
      let q : HasQuarters form = has_quarters form is in
      let at : ℕ = right_start form + place in
      let here : window_at tables form at ≡ slope tables (form.right / 2) (form.right / 2 - 1 - place) =
      on_right tables form at (omega arith) (omega arith) (omega arith)
      ∙ ap (λ n. slope tables (form.right / 2) (form.right / 2 - 1 - n)) (let p : at - right_start form ≡ place = omega arith in p) in
      let value : v ≡ fallen_at tables form old at =
      v-is
      ∙ (ap (λ s. weighted s (value_at block at) weight) scale-is
      ∙ (ap (λ x. weighted tables.scale x weight) (so_far.rest at (omega arith))
      ∙ (ap (weighted tables.scale (value_at old at)) (weight-is ∙ sym here) ∙ sym (fallen_behind at (omega arith))))) in
      let next : at + 1 ≡ right_start form + (place + 1) = omega arith in
      subst (λ n. IsWritten (fallen_at tables form old) old n (set block at (to_z w64 (of_z w64 v)))) next
      (subst (λ x. IsWritten (fallen_at tables form old) old (at + 1) (set block at x)) (sym (kept v small))
      (written_more (fallen_at tables form old) old block at v so_far (omega arith) value small))

  -- ---- both sides

  pub both_sides : (risen new : List ℤ) → length old ≡ form.size → length new ≡ length old → ((i : ℕ) → i < left_end form → value_at risen i ≡ windowed_at tables form old i) → ((i : ℕ) → left_end form ≤ i → value_at risen i ≡ value_at old i) → ((i : ℕ) → right_start form ≤ i → i < form.size → value_at new i ≡ windowed_at tables form risen i) → ((i : ℕ) → i < right_start form → value_at new i ≡ value_at risen i) → new ≡ windowed tables form old
  unfolding windowed
  both_sides risen new size same rises stays falls keeps =
      let q : HasQuarters form = has_quarters form is in
      fill_by_all (windowed_at tables form old) new (length old) (pos 0) same
      (λ i within. elim (cases_lt i (right_start form)) [
        | inl low ↦ keeps i low ∙ elim (cases_lt i (left_end form)) [
          | inl lower ↦ rises i lower
          | inr higher ↦
              stays i higher
              ∙ sym (
              ap (weighted tables.scale (value_at old i)) (between tables form i higher low)
              ∙ weighted_whole tables.scale (value_at old i)
              )
        ]
        | inr high ↦
            falls i high (omega arith)
            ∙ ap (λ x. weighted tables.scale x (window_at tables form i)) (stays i (omega arith))
      ])
