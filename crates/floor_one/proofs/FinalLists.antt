-- Final values and flags, with one more point.
use Rattle.std.proofs.Common.{◌≡◌, ℕ, zero, suc, ◌+◌, ◌-◌, ◌<◌, ◌≤◌, List, [], ◌∷◌, ◌++◌, length, get_or, map, ℤ, pos, Bool, true, false, inl, inr, refl, ap, sym, ◌∙◌, arith}
use Rattle.std.specs.Prelude.{◌^◌, unsigned_abs, fold, take, nat_lt, not, ◌&&◌, ◌||◌, ◌==◌, slice_index}
use Rattle.std.specs.List.{All, range_with_len, list_any}
use Rattle.std.proofs.lemmas.List.FromFn.{length-range_with_len, get_or-range_with_len, length-map-range_with_len, take-map-range_with_len, fill_by_all}
use Rattle.std.proofs.lemmas.List.Folds.{list_any-append, list_any_none}
use Rattle.std.proofs.lemmas.List.Sums.{fold-append}
use Rattle.std.proofs.lemmas.List.Elements.{All-cons, All-nil, All-weaker}
use Rattle.std.proofs.lemmas.Bool.{ne_eqb, le-ltb, and_right, cases_lt}
use Rattle.std.proofs.Math.Bool.{or-false}
use Rattle.std.proofs.Math.ListN.{get_or-map}
use Rattle.model_setup.specs.declared.floor.Final.{Final}
use Rattle.model_setup.specs.FloorSetup.{FloorSetup, ArePoints}
use Rattle.model_setup.specs.FloorCurve.{values_up_to, with_next, point_value, predicted, final_value, is_flagged, is_moved, bends, low_neighbour, high_neighbour, finals_up_to, final_of, no_final, AreFinals}
use Rattle.floor_one.specs.Curves.{height_between_neighbours}
use Rattle.floor_one.proofs.Between.{low_is_below, high_is_above}

one_number_more : (a n : ℕ) → range_with_len a (suc n) ≡ range_with_len a n ++ (a + n) ∷ []
one_number_more a zero = let e : a ≡ a + 0 = omega arith in ap (λ i. i ∷ []) e
one_number_more a (suc n) =
    let e : a + 1 + n ≡ a + suc n = omega arith in
    ap (λ l. a ∷ l) (one_number_more (a + 1) n ∙ ap (λ i. range_with_len (a + 1) n ++ i ∷ []) e)

-- the numbers of the points behind the first two, with one more
numbers_more : (count : ℕ) → 2 ≤ count → range_with_len 2 (count + 1 - 2) ≡ range_with_len 2 (count - 2) ++ count ∷ []
numbers_more count two =
    let n : count + 1 - 2 ≡ suc (count - 2) = omega arith in
    let m : 2 + (count - 2) ≡ count = omega arith in
    ap (range_with_len 2) n ∙ one_number_more 2 (count - 2) ∙ ap (λ i. range_with_len 2 (count - 2) ++ i ∷ []) m

pub values_more : (range : ℕ) (x_values y_values : List ℕ) (count : ℕ) → 2 ≤ count → values_up_to range x_values y_values (count + 1) ≡ with_next range x_values y_values (values_up_to range x_values y_values count) count
unfolding values_up_to
values_more range x_values y_values count two =
    let step = with_next range x_values y_values in
    let start = map pos (take 2 y_values) in
    ap (fold step start) (numbers_more count two) ∙ fold-append step start (range_with_len 2 (count - 2)) (count ∷ [])

one_test_more : (a b c : Bool) → (a || (b || (c || false))) ≡ ((a || b) || c)
one_test_more true b c = refl
one_test_more false true c = refl
one_test_more false false c = or-false c

-- a point is flagged as before, or by the new one
pub flagged_more : (x_values y_values : List ℕ) (count i : ℕ) → 2 ≤ count → is_flagged x_values y_values (count + 1) i ≡ (is_flagged x_values y_values count i || bends x_values y_values i count)
unfolding is_flagged
flagged_more x_values y_values count i two =
    let own = nat_lt i 2 || is_moved y_values i in
    let p = bends x_values y_values i in
    ap (λ l. own || list_any p l) (numbers_more count two) ∙ ap (λ b. own || b) (list_any-append p (range_with_len 2 (count - 2)) (count ∷ [])) ∙ one_test_more own (list_any p (range_with_len 2 (count - 2))) (p count)

-- no point up to this one bends the curve here
never_bends : (x_values y_values : List ℕ) (count i : ℕ) → ArePoints x_values → 2 ≤ i → i ≤ count → i < length x_values → bends x_values y_values count i ≡ false
never_bends x_values y_values count i points two le within =
    let low = (low_is_below x_values i points two within).before in
    let high = (high_is_above x_values i points two within).before in
    let e : (low_neighbour x_values i == count) ≡ false = ne_eqb (low_neighbour x_values i) count (λ h. omega arith) in
    let f : (high_neighbour x_values i == count) ≡ false = ne_eqb (high_neighbour x_values i) count (λ h. omega arith) in
    let g : (low_neighbour x_values i == count || high_neighbour x_values i == count) ≡ false = ap (λ b. b || high_neighbour x_values i == count) e ∙ f in
    and_right (is_moved y_values i) (low_neighbour x_values i == count || high_neighbour x_values i == count) g

-- the new point is flagged by its own value alone
pub flagged_last : (x_values y_values : List ℕ) (count : ℕ) → ArePoints x_values → 2 ≤ count → count < length x_values → is_flagged x_values y_values (count + 1) count ≡ is_moved y_values count
unfolding is_flagged
flagged_last x_values y_values count points two within =
    let numbers = range_with_len 2 (count + 1 - 2) in
    let p = bends x_values y_values count in
    let none : All (λ j. p j ≡ false) numbers = λ k d h.
    let len = length-range_with_len 2 (count + 1 - 2) in
    let e : get_or numbers k d ≡ 2 + k = get_or-range_with_len 2 (count + 1 - 2) k d (omega arith) in
    rw e (never_bends x_values y_values count (2 + k) points (omega arith) (omega arith) (omega arith)) in
    let first : nat_lt count 2 ≡ false = le-ltb count 2 two in
    ap (λ b. (nat_lt count 2 || is_moved y_values count) || b) (list_any_none p numbers none) ∙ or-false (nat_lt count 2 || is_moved y_values count) ∙ ap (λ b. b || is_moved y_values count) first

value_in : (finals : List Final) (i : ℕ) → point_value (map (λ (f : Final). f.value) finals) i ≡ (final_of finals i).value
value_in finals i = get_or-map (λ (f : Final). f.value) finals i no_final

predicted_is : (x_values : List ℕ) (finals : List Final) (i : ℕ) → predicted x_values (map (λ (f : Final). f.value) finals) i ≡ height_between_neighbours x_values finals i (low_neighbour x_values i) (high_neighbour x_values i)
unfolding predicted
predicted_is x_values finals i = rw (value_in finals (low_neighbour x_values i), value_in finals (high_neighbour x_values i)) refl

module _ (range : ℕ) (x_values y_values : List ℕ) (finals more : List Final) (count low high y : ℕ) (points : ArePoints x_values) (two : 2 ≤ count) (within : count < length x_values) (counted : length finals ≡ count)
    (low_is : low ≡ low_neighbour x_values count) (high_is : high ≡ high_neighbour x_values count) (y_is : y ≡ slice_index y_values count) where
  pub next_value : (xs : List ℕ) → xs ≡ x_values → map (λ (f : Final). f.value) finals ≡ values_up_to range x_values y_values count
      → map (λ (f : Final). f.value) more ≡ map (λ (f : Final). f.value) finals ++ final_value range (height_between_neighbours xs finals (length finals) low high) y ∷ []
      → (next : ℕ) → next ≡ count + 1 → map (λ (f : Final). f.value) more ≡ values_up_to range x_values y_values next
  next_value xs e values h next n =
      let height : height_between_neighbours xs finals (length finals) low high ≡ predicted x_values (map (λ (f : Final). f.value) finals) count =
      rw (e, low_is, high_is, counted) (sym (predicted_is x_values finals count)) in
      h ∙ ap (λ v. map (λ (f : Final). f.value) finals ++ final_value range v y ∷ []) height
      ∙ ap (λ v. map (λ (f : Final). f.value) finals ++ final_value range (predicted x_values (map (λ (f : Final). f.value) finals) count) v ∷ []) y_is
      ∙ ap (λ vs. with_next range x_values y_values vs count) values ∙ sym (values_more range x_values y_values count two) ∙ ap (values_up_to range x_values y_values) (sym n)

  pub next_flags : ((k : ℕ) → k < count → (final_of finals k).flagged ≡ is_flagged x_values y_values count k)
      → ((k : ℕ) → k < length finals → (final_of more k).flagged ≡ ((final_of finals k).flagged || (not (y == 0) && (low == k || high == k))))
      → (final_of more (length finals)).flagged ≡ not (y == 0)
      → (next : ℕ) → next ≡ count + 1 → (k : ℕ) → k < next → (final_of more k).flagged ≡ is_flagged x_values y_values next k
  next_flags flags before here next n k lt = rw n (elim (cases_lt k count) [
    | inl less ↦
        before k (omega arith) ∙ ap (λ b. b || (not (y == 0) && (low == k || high == k))) (flags k less) ∙ ap (λ v. is_flagged x_values y_values count k || (not (v == 0) && (low == k || high == k))) y_is
        ∙ ap (λ v. is_flagged x_values y_values count k || (is_moved y_values count && (v == k || high == k))) low_is
        ∙ ap (λ v. is_flagged x_values y_values count k || (is_moved y_values count && (low_neighbour x_values count == k || v == k))) high_is
        ∙ sym (flagged_more x_values y_values count k two)
    | inr more' ↦
        let same : k ≡ count = omega arith in
        let same' : k ≡ length finals = omega arith in
        ap (λ j. (final_of more j).flagged) same' ∙ here ∙ ap (λ v. not (v == 0)) y_is ∙ sym (flagged_last x_values y_values count points two within) ∙ ap (is_flagged x_values y_values (count + 1)) (sym same)
  ])

abbrev final : ℤ → Bool → Final
final value flagged = record { value = value; flagged = flagged }

final_is : (f : Final) (v : ℤ) (b : Bool) → f.value ≡ v → f.flagged ≡ b → f ≡ final v b
final_is f v b p q = ap (λ z. final z f.flagged) p ∙ ap (final v) q

-- all of them
pub finals_are : (range : ℕ) (x_values y_values : List ℕ) (finals : List Final) (count : ℕ) → length finals ≡ count → map (λ (f : Final). f.value) finals ≡ values_up_to range x_values y_values count
    → ((k : ℕ) → k < count → (final_of finals k).flagged ≡ is_flagged x_values y_values count k) → finals ≡ finals_up_to range x_values y_values count
unfolding finals_up_to
finals_are range x_values y_values finals count counted values flags =
    fill_by_all (λ i. final (point_value (values_up_to range x_values y_values count) i) (is_flagged x_values y_values count i)) finals count no_final counted
    (λ k h. final_is (final_of finals k) (point_value (values_up_to range x_values y_values count) k) (is_flagged x_values y_values count k) (sym (value_in finals k) ∙ ap (λ vs. point_value vs k) values) (flags k h))

-- ---- the first two

take_two : (ys : List ℕ) → 2 ≤ length ys → map pos (take 2 ys) ≡ pos (slice_index ys 0) ∷ pos (slice_index ys 1) ∷ []
take_two [] h = absurd (omega arith)
take_two (y ∷ []) h = absurd (omega arith)
take_two (y ∷ z ∷ ys) h = refl

module _ (range : ℕ) (x_values y_values : List ℕ) (a b : Final) (two : 2 ≤ length y_values) (a_value : a.value ≡ pos (slice_index y_values 0)) (a_flagged : a.flagged ≡ true)
    (b_value : b.value ≡ pos (slice_index y_values 1)) (b_flagged : b.flagged ≡ true) where
  pub first_values : map (λ (f : Final). f.value) (a ∷ b ∷ []) ≡ values_up_to range x_values y_values 2
  unfolding values_up_to
  first_values = ap (λ v. v ∷ b.value ∷ []) a_value ∙ ap (λ v. pos (slice_index y_values 0) ∷ v ∷ []) b_value ∙ sym (take_two y_values two)

  pub first_flags : (k : ℕ) → k < 2 → (final_of (a ∷ b ∷ []) k).flagged ≡ is_flagged x_values y_values 2 k
  unfolding is_flagged
  first_flags zero h = a_flagged
  first_flags (suc zero) h = b_flagged
  first_flags (suc (suc k)) h = absurd (omega arith)

  pub first_small : All (λ y. y < 2 ^ 24) y_values → All (λ (f : Final). unsigned_abs f.value ≤ 2 ^ 24) (a ∷ b ∷ [])
  first_small small =
      let P : Final → Type 0 = λ (f : Final). unsigned_abs f.value ≤ 2 ^ 24 in
      let s : slice_index y_values 0 < 2 ^ 24 = small 0 0 (omega arith) in
      let t : slice_index y_values 1 < 2 ^ 24 = small 1 0 (omega arith) in
      let p : P a = rw a_value (omega arith) in
      let q : P b = rw b_value (omega arith) in
      All-cons P a (b ∷ []) p (All-cons P b [] q (All-nil P))

-- ---- a curve can be drawn from them

first_two_are_ends : (range : ℕ) (x_values y_values : List ℕ) (count : ℕ) → 2 ≤ count → All (λ (f : Final). f.flagged ≡ true) (take 2 (finals_up_to range x_values y_values count))
unfolding finals_up_to is_flagged
first_two_are_ends range x_values y_values count two =
    let at : ℕ → Final = λ i. final (point_value (values_up_to range x_values y_values count) i) (is_flagged x_values y_values count i) in
    let P : Final → Type 0 = λ (f : Final). f.flagged ≡ true in
    rw (take-map-range_with_len at 0 count 2 two) (All-cons P (at 0) (at 1 ∷ []) refl (All-cons P (at 1) [] refl (All-nil P)))

as_many : (range : ℕ) (x_values y_values : List ℕ) (count : ℕ) → length (finals_up_to range x_values y_values count) ≡ count
unfolding finals_up_to
as_many range x_values y_values count = length-map-range_with_len (λ i. final (point_value (values_up_to range x_values y_values count) i) (is_flagged x_values y_values count i)) 0 count

pub make_a_curve : (floor : FloorSetup) (range : ℕ) (x_values y_values : List ℕ) (finals : List Final) → 2 ≤ length x_values → x_values ≡ floor.x_values
    → finals ≡ finals_up_to range x_values y_values (length x_values) → All (λ (f : Final). unsigned_abs f.value ≤ 2 ^ 24) finals → AreFinals floor finals
make_a_curve floor range x_values y_values finals two same e small = record {
  count = ap length e ∙ as_many range x_values y_values (length x_values) ∙ ap length same;
  ends = rw e (first_two_are_ends range x_values y_values (length x_values) two);
  small = All-weaker (λ (f : Final). unsigned_abs f.value ≤ 2 ^ 24) (λ (f : Final). unsigned_abs f.value ≤ 2 ^ 25) (λ f h. omega arith) finals small;
}
