-- A value is added across the lines: what a step of the loop leaves.
use Rattle.std.proofs.Common.{◌≡◌, ℕ, ◌+◌, ◌*◌, ◌<◌, List, [], length, get_or, set, drop, ℤ, pos, ◌+ℤ◌, w64, to_z, of_z, inl, inr, ap, sym, ◌∙◌, arith}
use Rattle.std.specs.List.{All, refill}
use Rattle.std.proofs.Math.Nat.{mul-le-mul_right}
use Rattle.std.proofs.lemmas.Bool.{cases_lt}
use Rattle.std.proofs.lemmas.List.{length-set, take_at, get_or_default}
use Rattle.std.proofs.lemmas.List.Elements.{All-set}
use Rattle.model_fixed.specs.Fixed.{IsWithinLimit, limited}
use Rattle.model_setup.specs.ResidueDecoding.{add_all}
use Rattle.residues.specs.Layout.{AreLines, together, run_places}
use Rattle.residues.proofs.Additions.{added_next_of}
use Rattle.residues.proofs.Together.{set_together, value_of_line}

-- the row of a place within the whole
pub row_within : (place count channel size p : ℕ) → place * count + channel ≡ p → p < size * count → place < size
row_within place count channel size p e h = elim (cases_lt place size) [
  | inl l ↦ l
  | inr g ↦ absurd (let m = mul-le-mul_right count g in omega arith)
]

refilled : {X : Type 0} (n : ℕ) (xs ws : List X) → length ws ≡ n → refill n xs ws ≡ ws
refilled n xs ws e = take_at ws (drop (length ws) xs) n e

module _ (size : ℕ) (lines : List (List ℤ)) (channel place : ℕ) (l items : List ℤ) (v : ℤ) (are : AreLines size lines) (k : channel < length lines) (h : place < size) (is : items ≡ get_or lines channel l) where
  -- the line is written in its place
  pub written : set lines channel (refill (length (get_or lines channel l)) (get_or lines channel l) (set items place v)) ≡ set lines channel (set (get_or lines channel []) place v)
  written =
      let line = get_or lines channel l in
      let same : length (set items place v) ≡ length line = length-set items place v ∙ ap length is in
      ap (set lines channel) (refilled (length line) line (set items place v) same ∙ ap (λ xs. set xs place v) (is ∙ get_or_default lines channel l [] k))

  pub stay_lines : IsWithinLimit v → AreLines size (set lines channel (set (get_or lines channel []) place v))
  stay_lines small =
      let line = get_or lines channel [] in
      let new = set line place v in
      record {
        sizes = All-set (λ line. length line ≡ size) lines channel new (length-set line place v ∙ are.sizes channel [] k) are.sizes;
        small = All-set (All IsWithinLimit) lines channel new (All-set IsWithinLimit line place v small (are.small channel [] k)) are.small;
      }

-- the next value is added to the whole
pub added_across : (size : ℕ) (start terms : List ℤ) (lines : List (List ℤ)) (first j channel place : ℕ) (x y r : ℤ) (are : AreLines size lines) (k : channel < length lines) (h : place < size)
    → together size lines ≡ add_all start (run_places first 1 j) terms → j < length terms → place * length lines + channel ≡ first + j
    → IsWithinLimit x → IsWithinLimit y → IsWithinLimit r
    → x ≡ get_or (get_or lines channel []) place (pos 0) → y ≡ get_or terms j (pos 0) → r ≡ limited (to_z w64 (of_z w64 x) +ℤ to_z w64 (of_z w64 y))
    → together size (set lines channel (set (get_or lines channel []) place (to_z w64 (of_z w64 r)))) ≡ add_all start (run_places first 1 (j + 1)) terms
added_across size start terms lines first j channel place x y r are k h so_far more at sx sy sr ex ey e =
    let whole = together size lines in
    let p : place * length lines + channel ≡ first + j * 1 = omega arith in
    let reads : x ≡ get_or whole (first + j * 1) (pos 0) = ex ∙ sym (value_of_line size lines place channel (pos 0) h k) ∙ ap (λ q. get_or whole q (pos 0)) p in
    set_together size lines place channel (to_z w64 (of_z w64 r)) are.sizes h k
    ∙ ap (λ q. set whole q (to_z w64 (of_z w64 r))) p
    ∙ added_next_of start terms whole first 1 j r so_far more x y sx sy sr reads ey e
