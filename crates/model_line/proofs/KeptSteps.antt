-- The rows of a link as they are kept, and one more of them.
use Rattle.std.proofs.Common.{◌≡◌, ℕ, ◌+◌, Bool, true, false, cond, List, [], ◌∷◌, ◌++◌, length, None, refl, ap, ◌∙◌, inl, inr, arith}
use Rattle.std.specs.Prelude.{count_by}
use Rattle.std.proofs.lemmas.Bool.{cases_Bool}
use Rattle.std.proofs.lemmas.List.{append-nil}
use Rattle.std.proofs.lemmas.List.Sums.{sum_by-cons}
use Rattle.model_ogg.specs.declared.page.Mark.{Mark}
use Rattle.model_line.specs.declared.row.Row.{Row}
use Rattle.model_line.specs.declared.row.RowKind.{RowKind}
use Rattle.model_line.specs.declared.rows.KeptRow.{KeptRow}
use Rattle.model_line.specs.KeptRows.{next_mark, marks_behind, kept_rows}

pub length-kept_rows : (kept : List KeptRow) (marks : List Mark) → length (kept_rows kept marks) ≡ length kept
length-kept_rows [] marks = refl
length-kept_rows (k ∷ ks) marks = omega (arith, length-kept_rows ks (marks_behind k.is_marked marks))

-- how many rows are marked
abbrev marked_count : List KeptRow → ℕ
marked_count kept = count_by (λ k. k.is_marked) kept

marked_count-cons : (k : KeptRow) (ks : List KeptRow) (b : Bool) → k.is_marked ≡ b → marked_count (k ∷ ks) ≡ cond b 1 0 + marked_count ks
marked_count-cons k ks b e =
    sum_by-cons (λ (k : KeptRow). cond k.is_marked 1 0) k ks ∙ ap (λ (v : Bool). cond v 1 0 + marked_count ks) e

pub kept_rows-append : (kept more : List KeptRow) (marks others : List Mark) → marked_count kept ≡ length marks → kept_rows (kept ++ more) (marks ++ others) ≡ kept_rows kept marks ++ kept_rows more others
kept_rows-append [] more [] others e = refl
kept_rows-append [] more (m ∷ ms) others e = absurd (omega (arith, e))
kept_rows-append (k ∷ ks) more [] others e =
    elim (cases_Bool k.is_marked) [
      | inl is_marked ↦ absurd (omega (arith, marked_count-cons k ks true is_marked, e))
      | inr unmarked ↦
          let fewer : marked_count ks ≡ 0 = omega (arith, marked_count-cons k ks false unmarked, e) in
          rw unmarked (ap (λ (rows : List Row). record { kind = k.kind; mark = next_mark false others } ∷ rows) (kept_rows-append ks more [] others fewer))
    ]
kept_rows-append (k ∷ ks) more (m ∷ ms) others e =
    elim (cases_Bool k.is_marked) [
      | inl is_marked ↦
          let fewer : marked_count ks ≡ length ms = omega (arith, marked_count-cons k ks true is_marked, e) in
          rw is_marked (ap (λ (rows : List Row). record { kind = k.kind; mark = next_mark true (m ∷ ms) } ∷ rows) (kept_rows-append ks more ms others fewer))
      | inr unmarked ↦
          let fewer : marked_count ks ≡ length (m ∷ ms) = omega (arith, marked_count-cons k ks false unmarked, e) in
          rw unmarked (ap (λ (rows : List Row). record { kind = k.kind; mark = next_mark false (m ∷ ms) } ∷ rows) (kept_rows-append ks more (m ∷ ms) others fewer))
    ]

-- a row without a mark is added at the end
pub kept_rows-unmarked : (kept : List KeptRow) (marks : List Mark) (kind : RowKind) → marked_count kept ≡ length marks → kept_rows (kept ++ record { kind = kind; is_marked = false } ∷ []) marks ≡ kept_rows kept marks ++ record { kind = kind; mark = None } ∷ []
kept_rows-unmarked kept marks kind e =
    let added = kept_rows-append kept (record { kind = kind; is_marked = false } ∷ []) marks [] e in
    rw append-nil at added
