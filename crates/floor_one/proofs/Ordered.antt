-- The positions of points in rising order of their lines.
use Rattle.std.proofs.Common.{◌≡◌, ℕ, ◌<◌, List, [], ◌++◌, length, get_or, take, drop, Bool, eqb, ap, ◌∙◌, arith}
use Rattle.std.proofs.lemmas.Bool.{eqb-false, ne_eqb}
use Rattle.std.proofs.lemmas.Bool.Decides.{nat_tests}
use Rattle.std.proofs.lemmas.List.{append-nil, drop_all, take_all}
use Rattle.std.proofs.lemmas.List.FromFn.{length-map-range_with_len, get_or-map-range_with_len}
use Rattle.std.proofs.lemmas.Map.Keys.{apart_from_distinct, IsDistinct-from_apart, IsDistinct-IsPermutation}
use Rattle.std.specs.List.{IsDistinct, refill}
use Rattle.std.specs.List.Sorted.{IsPermutation, IsNonDecreasingBy}
use Rattle.model_setup.specs.FloorSetup.{ArePoints}
use Rattle.floor_one.specs.declared.points.Position.{Position}
use Rattle.floor_one.specs.Points.{position_at, positions_of, AreInOrder}

-- as many written over a list as it has
pub refill_all : {X : Type 0} (xs ws : List X) → length ws ≡ length xs → refill (length xs) xs ws ≡ ws
refill_all xs ws e =
    let none : drop (length ws) xs ≡ [] = drop_all (length ws) xs (omega arith) in
    ap (λ rest. take (length xs) (ws ++ rest)) none ∙ ap (take (length xs)) (append-nil ws) ∙ take_all (length xs) ws (omega arith)

at_one_line : Position → Position → Bool
at_one_line p q = eqb p.x q.x

either_way : (p q : Position) → at_one_line p q ≡ at_one_line q p
unfolding at_one_line
either_way p q = flips p.x q.x
  where
    flips : (a b : ℕ) → eqb a b ≡ eqb b a
    flips a b = grind (arith, nat_tests)

place_read : (xs : List ℕ) (i : ℕ) (d : Position) → i < length xs → get_or (positions_of xs) i d ≡ position_at xs i
place_read xs i d l = get_or-map-range_with_len (position_at xs) 0 (length xs) i i d l (omega arith)

places_apart : (xs : List ℕ) → ArePoints xs → IsDistinct at_one_line (positions_of xs)
unfolding at_one_line
places_apart xs points =
    let n = length-map-range_with_len (position_at xs) 0 (length xs) in
    IsDistinct-from_apart at_one_line (positions_of xs) (λ i j d less l.
    let m : j < length xs = omega arith in
    let k : i < length xs = omega arith in
    let different : get_or xs i 0 ≡ get_or xs j 0 → ⊥ = λ e. let same = points.apart i j k m e in absurd (omega arith) in
    rw (place_read xs i d k, place_read xs j d m) (ne_eqb (get_or xs i 0) (get_or xs j 0) different))

pub in_order_from : (xs : List ℕ) (sorted : List Position) → ArePoints xs → IsPermutation (positions_of xs) sorted → IsNonDecreasingBy (λ (p : Position). p.x) sorted → AreInOrder xs sorted
unfolding at_one_line
in_order_from xs sorted points permuted risen = record {
  same = permuted;
  rising = λ i j d less l.
      let distinct = IsDistinct-IsPermutation at_one_line either_way (positions_of xs) sorted permuted (places_apart xs points) in
      let apart = apart_from_distinct at_one_line sorted i j d distinct less l in
      let different = eqb-false (get_or sorted i d).x (get_or sorted j d).x apart in
      let up = risen i j d (omega arith) l in
      omega (arith, up, different);
}
