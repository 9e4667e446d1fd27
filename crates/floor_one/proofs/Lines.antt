-- The lines of points as they are read, and that points stand at them.
use Rattle.std.proofs.Common.{◌≡◌, ℕ, zero, suc, ◌<◌, List, [], ◌∷◌, ◌++◌, length, get_or, Bool, true, not, eqb, inl, inr, ap, sym, ◌∙◌, arith}
use Rattle.std.proofs.lemmas.Bool.{cases_order, cases_lt, and_parts, not-true, eq-eqb, both_ways}
use Rattle.std.proofs.lemmas.List.{get_or_append_left, get_or_push, length_push}
use Rattle.std.proofs.lemmas.List.Folds.{list_any_at}
use Rattle.std.specs.List.{list_any}
use Rattle.model_setup.specs.FloorSetup.{ArePoints, is_distinct}
use Rattle.floor_one.specs.Points.{AreEnds}

-- one line more
pub ends_push : (xs : List ℕ) (x : ℕ) → AreEnds xs → length xs < 65 → x < get_or xs 1 0 → AreEnds (xs ++ x ∷ [])
ends_push xs x ends room less =
    let n = length_push xs x in
    let two = ends.two in
    let one : get_or (xs ++ x ∷ []) 1 0 ≡ get_or xs 1 0 = get_or_append_left xs (x ∷ []) 0 1 (omega arith) in
    record {
      two = omega arith;
      few = omega arith;
      first = get_or_append_left xs (x ∷ []) 0 0 (omega arith) ∙ ends.first;
      second = λ i l behind. elim (cases_lt i (length xs)) [
        | inl before ↦ rw (one, get_or_append_left xs (x ∷ []) 0 i before) (ends.second i before behind)
        | inr last ↦ let e : length xs ≡ i = omega arith in rw (one, get_or_push xs x 0 i e) less
      ];
      some = rw one ends.some;
      within = rw one ends.within;
    }

later : (xs : List ℕ) (i j : ℕ) → is_distinct xs ≡ true → i < j → j < length xs → get_or xs i 0 ≡ get_or xs j 0 → ⊥
later [] i j h less l e = absurd (omega arith)
later (x ∷ xs) i zero h less l e = absurd (omega arith)
later (x ∷ xs) zero (suc j) h less l e =
    let parts = and_parts (not (list_any (λ y. eqb y x) xs)) (is_distinct xs) h in
    both_ways (list_any (λ y. eqb y x) xs) (not-true _ parts.0) (list_any_at (λ y. eqb y x) xs j 0 (omega arith) (eq-eqb (get_or xs j 0) x (sym e)))
later (x ∷ xs) (suc i) (suc j) h less l e =
    let parts = and_parts (not (list_any (λ y. eqb y x) xs)) (is_distinct xs) h in
    later xs i j parts.1 (omega arith) (omega arith) e

pub points_from : (xs : List ℕ) → AreEnds xs → is_distinct xs ≡ true → ArePoints xs
points_from xs ends distinct = record {
  two = ends.two;
  few = ends.few;
  first = ends.first;
  second = λ i l other. elim (cases_order i 1) [
    | inl e ↦ absurd (other e)
    | inr (inl less) ↦ let e : i ≡ 0 = omega arith in let first = ends.first in rw (e, first) ends.some
    | inr (inr more) ↦ ends.second i l more
  ];
  within = ends.within;
  apart = λ i j k l e. elim (cases_order i j) [
    | inl same ↦ same
    | inr (inl less) ↦ absurd (later xs i j distinct less l e)
    | inr (inr more) ↦ absurd (later xs j i distinct more k (sym e))
  ];
}

-- the same of lines that were passed on
pub points_passed : (xs passed : List ℕ) (b : Bool) → AreEnds xs → passed ≡ xs → b ≡ is_distinct passed → b ≡ true → ArePoints xs
points_passed xs passed b ends same answer distinct = points_from xs ends (ap is_distinct (sym same) ∙ sym answer ∙ distinct)
