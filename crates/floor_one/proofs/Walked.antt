-- The points of a floor in the order of their lines, and the curve between those that are flagged.
use Rattle.std.proofs.Common.{◌^◌, ◌≡◌, ℕ, ◌+◌, ◌-◌, ◌<◌, ◌≤◌, ℤ, pos, List, [], ◌∷◌, length, take, drop, get_or, Some, None, Bool, true, false, ◌⊎◌, inl, inr, refl, ap, sym, ◌∙◌, arith, unsigned_abs, subst, take_all, add-one, ◌*ℤ◌}
use Rattle.std.specs.List.{All, Contains, range_with_len}
use Rattle.std.proofs.lemmas.Bool.{cases_lt, cases_order, both_ways}
use Rattle.std.proofs.lemmas.List.{get_or_default}
use Rattle.std.proofs.lemmas.List.Elements.{All-map, Contains-get_or}
use Rattle.std.proofs.lemmas.List.Sorted.{All-permutation, Contains-permutation, length_permutation}
use Rattle.std.proofs.lemmas.List.FromFn.{length-map-range_with_len, get_or-map-range_with_len, length-range_with_len, get_or-range_with_len}
use Rattle.model_setup.specs.declared.floor.Final.{Final}
use Rattle.model_setup.specs.FloorSetup.{FloorSetup, ArePoints}
use Rattle.model_setup.specs.FloorCurve.{render_point, decibel_number, curve_at, height_between, height_of, final_of, no_final, nearest_below, nearest_above, AreFinals}
use Rattle.floor_one.specs.declared.points.Position.{Position}
use Rattle.floor_one.specs.Points.{AreInOrder, positions_of}
use Rattle.floor_one.proofs.Nearest.{nearest_below_is, nearest_above_is, nearest_above_none}

-- the position of the first point, and what stands past the last
abbrev pub no_place : Position
no_place = record { x = 0; number = 0 }

abbrev pub position_at : List Position → ℕ → Position
position_at order j = get_or order j no_place

abbrev place_of : List ℕ → ℕ → Position
place_of xs i = record { x = get_or xs i 0; number = i }

-- a position of a point
pub record IsPlace (xs : List ℕ) (p : Position) : Type 0 where
  pub within : p.number < length xs
  pub is : p.x ≡ get_or xs p.number 0

module _ (xs : List ℕ) (order : List Position) (ordered : AreInOrder xs order) where
  pub as_many : length order ≡ length xs
  as_many = length_permutation (positions_of xs) order ordered.same ∙ length-map-range_with_len (place_of xs) 0 (length xs)

  pub is_place : (j : ℕ) → j < length order → IsPlace xs (position_at order j)
  is_place j l =
      All-permutation (IsPlace xs) (positions_of xs) order ordered.same
      (All-map (IsPlace xs) (place_of xs) (range_with_len 0 (length xs)) (λ k d h.
      let n = length-range_with_len 0 (length xs) in
      let lt : k < length xs = omega arith in
      let e = get_or-range_with_len 0 (length xs) k d lt in
      record { within = omega arith; is = refl }))
      j no_place l

  read_at : (p : Position) → Contains order p → (j : ℕ) × (j < length order) × (position_at order j ≡ p)
  read_at p there = (there.0, there.1, get_or_default order there.0 no_place p there.1 ∙ there.2)

  pub has_place : (m : ℕ) → m < length xs → (j : ℕ) × (j < length order) × (position_at order j ≡ place_of xs m)
  has_place m l =
      let n = length-map-range_with_len (place_of xs) 0 (length xs) in
      let at : get_or (positions_of xs) m no_place ≡ place_of xs m = get_or-map-range_with_len (place_of xs) 0 (length xs) m m no_place l (omega arith) in
      let has : Contains (positions_of xs) (get_or (positions_of xs) m no_place) = Contains-get_or (positions_of xs) m no_place (omega arith) in
      read_at (place_of xs m) (Contains-permutation (positions_of xs) order (place_of xs m) ordered.same (rw at at has))

  pub rises : (i j : ℕ) → i < j → j < length order → (position_at order i).x < (position_at order j).x
  rises i j l w = ordered.rising i j no_place l w

  -- no position stands before that of line 0
  first_at : (j : ℕ) → j < length order → position_at order j ≡ no_place → position_at order 0 ≡ no_place
  first_at j l e =
      elim (cases_lt 0 j) [
        | inl behind ↦ let r = rises 0 j behind l in let at : (position_at order j).x ≡ 0 = ap (λ (p : Position). p.x) e in absurd (omega arith)
        | inr here ↦ let same : 0 ≡ j = omega arith in ap (position_at order) same ∙ e
      ]

  pub begins_at_0 : ArePoints xs → position_at order 0 ≡ no_place
  begins_at_0 points =
      let first = has_place 0 (omega (arith, points.two)) in
      first_at first.0 first.1 (first.2 ∙ ap (λ n. record { x = n; number = 0 }) points.first)

-- whether a point is flagged
abbrev pub is_flagged_in : List Final → ℕ → Bool
is_flagged_in finals n = (final_of finals n).flagged

-- no flagged point stands between two positions of the order
abbrev AreUnflagged : List Final → List Position → ℕ → ℕ → Type 0
AreUnflagged finals order i w = (j : ℕ) → i < j → j < w → is_flagged_in finals (position_at order j).number ≡ false

module _ (floor : FloorSetup) (finals : List Final) (order : List Position) (ordered : AreInOrder floor.x_values order) (points : ArePoints floor.x_values) where
  -- a flagged point stands no later than i, or no sooner than w
  apart_from : (i w m : ℕ) → i < length order → i < w → w ≤ length order → AreUnflagged finals order i w → m < length floor.x_values → is_flagged_in finals m ≡ true
      → (get_or floor.x_values m 0 ≤ (position_at order i).x) ⊎ ((w < length order) × ((position_at order w).x ≤ get_or floor.x_values m 0))
  apart_from i w m l iw wl between within flagged =
      let p = has_place floor.x_values order ordered m within in
      let j = p.0 in
      let there = p.1 in
      let at : (position_at order j).x ≡ get_or floor.x_values m 0 = ap (λ (q : Position). q.x) p.2 in
      let number : (position_at order j).number ≡ m = ap (λ (q : Position). q.number) p.2 in
      elim (cases_order i j) [
        | inl e ↦ inl (let s = ap (λ n. (position_at order n).x) e in omega arith)
        | inr other ↦ elim other [
          | inr before ↦ inl (let r = rises floor.x_values order ordered j i before l in omega arith)
          | inl behind ↦ elim (cases_lt j w) [
            | inl inside ↦ absurd (both_ways (is_flagged_in finals m) (ap (is_flagged_in finals) (sym number) ∙ between j behind inside) flagged)
            | inr past ↦ elim (cases_order w j) [
              | inl e ↦ inr (omega arith, let s = ap (λ n. (position_at order n).x) e in omega arith)
              | inr o ↦ elim o [
                | inl more ↦ inr (omega arith, let r = rises floor.x_values order ordered w j more there in omega arith)
                | inr less ↦ absurd (omega arith)
              ]
            ]
          ]
        ]
      ]

  -- the nearest flagged point at or below a line
  below_is : (i w x : ℕ) → i < length order → i < w → w ≤ length order → AreUnflagged finals order i w → is_flagged_in finals (position_at order i).number ≡ true
      → (position_at order i).x ≤ x → (w < length order → x < (position_at order w).x)
      → nearest_below floor.x_values (is_flagged_in finals) (x + 1) ≡ Some (position_at order i).number
  below_is i w x l iw wl between flagged low high =
      let p = is_place floor.x_values order ordered i l in
      nearest_below_is floor.x_values (is_flagged_in finals) (x + 1) (position_at order i).number points.apart p.within flagged (omega (arith, p.is)) (λ m lm fm.
      elim (apart_from i w m l iw wl between lm fm) [
        | inl e ↦ inl (omega (arith, p.is))
        | inr e ↦ inr (let h = high e.0 in omega (arith, e.1))
      ])

  -- the curve between two flagged points with none between them
  pub curve_between : (i w x : ℕ) → w < length order → i < w → AreUnflagged finals order i w
      → is_flagged_in finals (position_at order i).number ≡ true → is_flagged_in finals (position_at order w).number ≡ true
      → (position_at order i).x ≤ x → x < (position_at order w).x
      → curve_at floor finals x ≡ decibel_number (render_point (position_at order i).x (height_of floor finals (position_at order i).number) (position_at order w).x (height_of floor finals (position_at order w).number) x)
  unfolding curve_at
  curve_between i w x wl iw between flagged_i flagged_w low high =
      let p = is_place floor.x_values order ordered i (omega arith) in
      let q = is_place floor.x_values order ordered w wl in
      let b = below_is i w x (omega arith) iw (omega arith) between flagged_i low (λ _. high) in
      let a : nearest_above floor.x_values (is_flagged_in finals) x ≡ Some (position_at order w).number =
      nearest_above_is floor.x_values (is_flagged_in finals) x (position_at order w).number points.apart q.within flagged_w (omega (arith, q.is)) (λ m lm fm.
      elim (apart_from i w m (omega arith) iw (omega arith) between lm fm) [
        | inl e ↦ inr (omega arith)
        | inr e ↦ inl (omega (arith, q.is, e.1))
      ]) in
      ap (λ o. decibel_number (height_between floor finals x o (nearest_above floor.x_values (is_flagged_in finals) x))) b
      ∙ ap (λ o. decibel_number (height_between floor finals x (Some (position_at order i).number) o)) a
      ∙ ap (λ n. decibel_number (render_point n (height_of floor finals (position_at order i).number) (get_or floor.x_values (position_at order w).number 0) (height_of floor finals (position_at order w).number) x)) (sym p.is)
      ∙ ap (λ n. decibel_number (render_point (position_at order i).x (height_of floor finals (position_at order i).number) n (height_of floor finals (position_at order w).number) x)) (sym q.is)

  -- the curve behind the last flagged point
  pub curve_behind : (i x : ℕ) → i < length order → AreUnflagged finals order i (length order)
      → is_flagged_in finals (position_at order i).number ≡ true → (position_at order i).x ≤ x
      → curve_at floor finals x ≡ decibel_number (height_of floor finals (position_at order i).number)
  unfolding curve_at
  curve_behind i x l between flagged low =
      let b = below_is i (length order) x l l (omega arith) between flagged low (λ h. absurd (omega arith)) in
      let a : nearest_above floor.x_values (is_flagged_in finals) x ≡ None =
      nearest_above_none floor.x_values (is_flagged_in finals) x (λ m lm fm.
      elim (apart_from i (length order) m l l (omega arith) between lm fm) [
        | inl e ↦ omega arith
        | inr e ↦ absurd (omega (arith, e.0))
      ]) in
      ap (λ o. decibel_number (height_between floor finals x o (nearest_above floor.x_values (is_flagged_in finals) x))) b
      ∙ ap (λ o. decibel_number (height_between floor finals x (Some (position_at order i).number) o)) a

-- so many positions of the order are walked, the last corner stands at this line and height, and the
-- curve is drawn up to it
pub record IsDrawn (floor : FloorSetup) (finals : List Final) (order : List Position) (count x : ℕ) (y : ℤ) (out : List ℕ) : Type 0 where
  pub ordered : AreInOrder floor.x_values order
  pub at : ℕ
  pub walked : at < count
  pub within : count ≤ length order
  pub line : (position_at order at).x ≡ x
  pub height : y ≡ height_of floor finals (position_at order at).number
  pub flagged : is_flagged_in finals (position_at order at).number ≡ true
  pub between : (j : ℕ) → at < j → j < count → is_flagged_in finals (position_at order j).number ≡ false
  pub small : unsigned_abs y ≤ 2 ^ 27
  pub drawn : (k : ℕ) → k < x → k < length out → get_or out k 0 ≡ curve_at floor finals k

-- the first point is a corner
pub drawn_first : (floor : FloorSetup) (finals : List Final) (order : List Position) (x : ℕ) (y : ℤ) (out : List ℕ)
    → ArePoints floor.x_values → AreInOrder floor.x_values order → AreFinals floor finals
    → x ≡ 0 → y ≡ height_of floor finals 0 → unsigned_abs y ≤ 2 ^ 27 → IsDrawn floor finals order 1 x y out
drawn_first floor finals order x y out points ordered are zero_x is_y small =
    let many = as_many floor.x_values order ordered in
    let first = begins_at_0 floor.x_values order ordered points in
    let number : (position_at order 0).number ≡ 0 = ap (λ (p : Position). p.number) first in
    let long : 2 ≤ length finals = omega (arith, points.two, are.count) in
    record {
      ordered = ordered;
      at = 0;
      walked = omega arith;
      within = omega (arith, points.two);
      line = ap (λ (p : Position). p.x) first ∙ sym zero_x;
      height = is_y ∙ ap (height_of floor finals) (sym number);
      flagged = ap (is_flagged_in finals) number ∙ first_flagged finals long are.ends;
      between = λ j a b. absurd (omega arith);
      small = small;
      drawn = λ k a b. absurd (omega arith);
    }
  where
    first_flagged : (finals : List Final) → 2 ≤ length finals → All (λ (f : Final). f.flagged ≡ true) (take 2 finals) → is_flagged_in finals 0 ≡ true
    first_flagged [] l h = absurd (omega arith)
    first_flagged (f ∷ fs) l h = h 0 f (omega arith)

-- a point that isn't flagged is passed over
pub drawn_past : (floor : FloorSetup) (finals : List Final) (order : List Position) (count next x : ℕ) (y : ℤ) (out : List ℕ)
    → IsDrawn floor finals order count x y out → next ≡ count + 1 → count < length order
    → is_flagged_in finals (position_at order count).number ≡ false → IsDrawn floor finals order next x y out
drawn_past floor finals order count next x y out d e l plain = record {
  ordered = d.ordered;
  at = d.at;
  walked = let w = d.walked in omega arith;
  within = omega arith;
  line = d.line;
  height = d.height;
  flagged = d.flagged;
  small = d.small;
  drawn = d.drawn;
  between =
      λ j a b.
      elim (cases_lt j count) [
        | inl before ↦ d.between j a before
        | inr here ↦ let same : j ≡ count = omega arith in ap (λ n. is_flagged_in finals (position_at order n).number) same ∙ plain
      ];
}

-- the straight line to a flagged point is drawn
pub drawn_to : (floor : FloorSetup) (finals : List Final) (order : List Position) (count next x x' : ℕ) (y y' : ℤ) (out out' : List ℕ)
    → ArePoints floor.x_values → IsDrawn floor finals order count x y out → next ≡ count + 1 → count < length order
    → is_flagged_in finals (position_at order count).number ≡ true
    → x' ≡ (position_at order count).x → y' ≡ height_of floor finals (position_at order count).number → unsigned_abs y' ≤ 2 ^ 27
    → length out' ≡ length out
    → ((k : ℕ) → x ≤ k → k < x' → k < length out → get_or out' k 0 ≡ decibel_number (render_point x y x' y' k))
    → ((k : ℕ) → k < x → get_or out' k 0 ≡ get_or out k 0)
    → IsDrawn floor finals order next x' y' out'
drawn_to floor finals order count next x x' y y' out out' points d e l flagged is_x is_y small long inside before = record {
  ordered = d.ordered;
  at = count;
  walked = omega arith;
  within = omega arith;
  line = sym is_x;
  height = is_y;
  flagged = flagged;
  between = λ j a b. absurd (omega arith);
  small = small;
  drawn =
      λ k lx lo.
      elim (cases_lt k x) [
        | inl old ↦ before k old ∙ d.drawn k old (omega arith)
        | inr new ↦
            let lk : k < length out = omega arith in
            let low : (position_at order d.at).x ≤ k = omega (arith, d.line) in
            let high : k < (position_at order count).x = omega arith in
            inside k new lx lk
            ∙ ap (λ n. decibel_number (render_point n y x' y' k)) (sym d.line)
            ∙ ap (λ n. decibel_number (render_point (position_at order d.at).x n x' y' k)) d.height
            ∙ ap (λ n. decibel_number (render_point (position_at order d.at).x (height_of floor finals (position_at order d.at).number) n y' k)) is_x
            ∙ ap (λ n. decibel_number (render_point (position_at order d.at).x (height_of floor finals (position_at order d.at).number) (position_at order count).x n k)) is_y
            ∙ sym (curve_between floor finals order d.ordered points d.at count k l d.walked d.between d.flagged flagged low high)
      ];
}

-- behind the last corner
pub drawn_behind : (floor : FloorSetup) (finals : List Final) (order : List Position) (count x : ℕ) (y : ℤ) (out : List ℕ) (k : ℕ)
    → ArePoints floor.x_values → IsDrawn floor finals order count x y out → count ≡ length order → x ≤ k → curve_at floor finals k ≡ decibel_number y
drawn_behind floor finals order count x y out k points d e l =
    let w : d.at < length order = omega (arith, d.walked) in
    let low : (position_at order d.at).x ≤ k = omega (arith, d.line) in
    curve_behind floor finals order d.ordered points d.at k w (λ j a b. d.between j a (omega arith)) d.flagged low ∙ ap decibel_number (sym d.height)

-- the positions behind the first
rest_is : (first : Position) (order : List Position) → 0 < length order → position_at order 0 ≡ first → first ∷ take (length order - 1) (drop 1 order) ≡ order
rest_is first [] l e = absurd (omega arith)
rest_is first (p ∷ ps) l e =
    let n : length (p ∷ ps) - 1 ≡ length ps = omega arith in
    ap (λ k. first ∷ take k ps) n ∙ ap (λ q. first ∷ q) (take_all (length ps) ps (omega arith)) ∙ ap (λ q. q ∷ ps) (sym e)

pub ordered_rest : (ps xs : List ℕ) (order : List Position) → AreInOrder ps order → ps ≡ xs → ArePoints xs → AreInOrder xs (no_place ∷ take (length order - 1) (drop 1 order))
ordered_rest ps xs order ordered e points =
    let on : AreInOrder xs order = subst (λ ys. AreInOrder ys order) e ordered in
    let many = as_many xs order on in
    subst (AreInOrder xs) (sym (rest_is no_place order (omega (arith, points.two)) (begins_at_0 xs order on points))) on

pub some_order : (ps xs : List ℕ) (order : List Position) → AreInOrder ps order → ps ≡ xs → ArePoints xs → 1 ≤ length order
some_order ps xs order ordered e points = omega (arith, as_many ps order ordered, ap length e, points.two)

-- a position behind the first
pub place_next : (first : Position) (rest : List Position) (i : ℕ) → position_at (first ∷ rest) (i + 1) ≡ position_at rest i
place_next first rest i = rw add-one

-- what a point has
pub final_is : (finals finals' : List Final) (n n' : ℕ) → finals' ≡ finals → n' ≡ n → get_or finals' n' no_final ≡ final_of finals n
final_is finals finals' n n' e s = ap (λ fs. get_or fs n' no_final) e ∙ ap (final_of finals) s

pub height_is : (floor : FloorSetup) (finals finals' : List Final) (n n' multiplier : ℕ) → finals' ≡ finals → n' ≡ n → multiplier ≡ floor.multiplier
    → (get_or finals' n' no_final).value *ℤ pos multiplier ≡ height_of floor finals n
height_is floor finals finals' n n' multiplier e s m =
    ap (λ (f : Final). f.value *ℤ pos multiplier) (final_is finals finals' n n' e s) ∙ ap (λ k. (final_of finals n).value *ℤ pos k) m
