-- A point stands between its neighbours, which are points before it.
use Rattle.std.proofs.Common.{◌≡◌, ◌≢◌, ℕ, ◌+◌, ◌-◌, ◌<◌, ◌≤◌, List, [], ◌∷◌, length, get_or, Option, Some, None, Bool, true, false, inl, inr, refl, ap, sym, ◌∙◌, arith}
use Rattle.std.specs.Prelude.{IfSome, unwrap_or, cond, nat_lt, nat_le, not, ◌&&◌, ◌||◌, slice_index}
use Rattle.std.specs.List.{find, list_all}
use Rattle.std.proofs.lemmas.List.FromFn.{length-map-range_with_len, get_or-map-range_with_len}
use Rattle.std.proofs.lemmas.Bool.{ltb-true, and_parts, cases_eq}
use Rattle.model_setup.specs.FloorSetup.{ArePoints}
use Rattle.model_setup.specs.FloorCurve.{nearest_below, nearest_above, low_neighbour, high_neighbour, point_numbers}
use Rattle.floor_one.specs.declared.points.Neighbours.{Neighbours}
use Rattle.floor_one.specs.Points.{neighbours_of}

-- a point before this one, at a bin below its own
pub record IsBelow (x_values : List ℕ) (i n : ℕ) : Type 0 where
  pub before : n < i
  pub below : get_or x_values n 0 < get_or x_values i 0

-- a point before this one, at a bin above its own
pub record IsAbove (x_values : List ℕ) (i n : ℕ) : Type 0 where
  pub before : n < i
  pub above : get_or x_values i 0 < get_or x_values n 0

abbrev neighbours_at : List ℕ → ℕ → Neighbours
neighbours_at x_values i = record { low = low_neighbour x_values i; high = high_neighbour x_values i }

passes_here : {X : Type 0} (p : X → Bool) (b : Bool) (x : X) (rest : Option X) → p x ≡ b → IfSome rest (λ y. p y ≡ true) → IfSome (cond b (Some x) rest) (λ y. p y ≡ true)
passes_here p true x rest e h = e
passes_here p false x rest e h = h

-- what is found passes the test
pub find_passes : {X : Type 0} (p : X → Bool) (xs : List X) → IfSome (find p xs) (λ y. p y ≡ true)
find_passes p [] = tt
find_passes p (x ∷ xs) = passes_here p (p x) x (find p xs) refl (find_passes p xs)

found_or : (o : Option ℕ) (d : ℕ) (p : ℕ → Bool) (P : ℕ → Type 0) → IfSome o (λ n. p n ≡ true) → ((n : ℕ) → p n ≡ true → P n) → P d → P (unwrap_or o d)
found_or None d p P h some none = none
found_or (Some n) d p P h some none = some n h

first_is_below : (x_values : List ℕ) (i : ℕ) → ArePoints x_values → 2 ≤ i → i < length x_values → IsBelow x_values i 0
first_is_below x_values i points behind within =
    let first = points.first in
    let two = points.two in
    elim (cases_eq (slice_index x_values i) 0) [
      | inl zero' ↦
          let same : i ≡ 0 = points.apart i 0 within (omega arith) (zero' ∙ sym first) in
          absurd (omega arith)
      | inr more ↦ record { before = omega arith; below = omega arith }
    ]

second_is_above : (x_values : List ℕ) (i : ℕ) → ArePoints x_values → 2 ≤ i → i < length x_values → IsAbove x_values i 1
second_is_above x_values i points behind within =
    let ne : i ≢ 1 = omega arith in
    record { before = omega arith; above = points.second i within ne }

pub low_is_below : (x_values : List ℕ) (i : ℕ) → ArePoints x_values → 2 ≤ i → i < length x_values → IsBelow x_values i (low_neighbour x_values i)
unfolding low_neighbour nearest_below
low_is_below x_values i points behind within =
    let x = slice_index x_values i in
    let p : ℕ → Bool = λ n. (nat_lt n i && nat_lt (slice_index x_values n) x) && list_all (λ m. (not (nat_lt m i) || nat_le (slice_index x_values m) (slice_index x_values n)) || nat_le x (slice_index x_values m)) (point_numbers x_values) in
    found_or (find p (point_numbers x_values)) 0 p (IsBelow x_values i) (find_passes p (point_numbers x_values))
    (λ n h.
    let a = and_parts (nat_lt n i && nat_lt (slice_index x_values n) x) (list_all (λ m. (not (nat_lt m i) || nat_le (slice_index x_values m) (slice_index x_values n)) || nat_le x (slice_index x_values m)) (point_numbers x_values)) h in
    let b = and_parts (nat_lt n i) (nat_lt (slice_index x_values n) x) a.0 in
    record { before = ltb-true n i b.0; below = ltb-true (slice_index x_values n) x b.1 })
    (first_is_below x_values i points behind within)

pub high_is_above : (x_values : List ℕ) (i : ℕ) → ArePoints x_values → 2 ≤ i → i < length x_values → IsAbove x_values i (high_neighbour x_values i)
unfolding high_neighbour nearest_above
high_is_above x_values i points behind within =
    let x = slice_index x_values i in
    let p : ℕ → Bool = λ n. (nat_lt n i && nat_lt x (slice_index x_values n)) && list_all (λ m. (not (nat_lt m i) || nat_le (slice_index x_values n) (slice_index x_values m)) || nat_le (slice_index x_values m) x) (point_numbers x_values) in
    found_or (find p (point_numbers x_values)) 1 p (IsAbove x_values i) (find_passes p (point_numbers x_values))
    (λ n h.
    let a = and_parts (nat_lt n i && nat_lt x (slice_index x_values n)) (list_all (λ m. (not (nat_lt m i) || nat_le (slice_index x_values n) (slice_index x_values m)) || nat_le (slice_index x_values m) x) (point_numbers x_values)) h in
    let b = and_parts (nat_lt n i) (nat_lt x (slice_index x_values n)) a.0 in
    record { before = ltb-true n i b.0; above = ltb-true x (slice_index x_values n) b.1 })
    (second_is_above x_values i points behind within)

-- ---- in the list of all neighbours

pub neighbours_count : (x_values : List ℕ) (nearest : List Neighbours) → nearest ≡ neighbours_of x_values → length nearest ≡ length x_values - 2
neighbours_count x_values nearest e = ap length e ∙ length-map-range_with_len (neighbours_at x_values) 2 (length x_values - 2)

pub two_behind : (x_values : List ℕ) (nearest : List Neighbours) (i : ℕ) → nearest ≡ neighbours_of x_values → i < length nearest → i + 2 < length x_values
two_behind x_values nearest i e within = let n = neighbours_count x_values nearest e in omega arith

neighbours_are : (x_values : List ℕ) (nearest : List Neighbours) (i j : ℕ) (d : Neighbours) → nearest ≡ neighbours_of x_values → i < length nearest → j ≡ i + 2 → get_or nearest i d ≡ neighbours_at x_values j
neighbours_are x_values nearest i j d e within h =
    let n = neighbours_count x_values nearest e in
    ap (λ l. get_or l i d) e ∙ get_or-map-range_with_len (neighbours_at x_values) 2 (length x_values - 2) i j d (omega arith) (omega arith)

module _ (x_values : List ℕ) (nearest : List Neighbours) (i j : ℕ) (d : Neighbours) (are : nearest ≡ neighbours_of x_values) (within : i < length nearest) (same : j ≡ i + 2) where
  number_within : j < length x_values
  number_within = let n = neighbours_count x_values nearest are in omega arith

  pub low_is : (get_or nearest i d).low ≡ low_neighbour x_values j
  low_is = ap (λ (n : Neighbours). n.low) (neighbours_are x_values nearest i j d are within same)

  pub high_is : (get_or nearest i d).high ≡ high_neighbour x_values j
  high_is = ap (λ (n : Neighbours). n.high) (neighbours_are x_values nearest i j d are within same)

  pub low_below : (xs : List ℕ) (n : ℕ) → ArePoints x_values → xs ≡ x_values → n ≡ j → IsBelow xs n (get_or nearest i d).low
  low_below xs n points e f = rw (e, f, low_is) (low_is_below x_values j points (omega arith) number_within)

  pub high_above : (xs : List ℕ) (n : ℕ) → ArePoints x_values → xs ≡ x_values → n ≡ j → IsAbove xs n (get_or nearest i d).high
  high_above xs n points e f = rw (e, f, high_is) (high_is_above x_values j points (omega arith) number_within)
