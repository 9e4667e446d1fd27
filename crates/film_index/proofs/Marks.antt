-- The marks of a link, one entry at a time.
use Rattle.std.proofs.Common.{◌≡◌, ℕ, ◌+◌, ◌-◌, true, false, cond, List, [], ◌∷◌, length, map, refl, ap, sym, ◌∙◌, Option, Some, None}
use Rattle.std.proofs.lemmas.List.FromFn.{length-range_with_len}
use Rattle.model_ogg.specs.declared.page.Mark.{Mark}
use Rattle.model_line.specs.declared.row.Row.{Row}
use Rattle.model_line.specs.declared.trim.Marked.{Marked}
use Rattle.model_line.specs.declared.trim.Stretch.{Stretch}
use Rattle.model_line.specs.Decode.{frames_given, previous_after}
use Rattle.model_line.specs.Trim.{marks, front_cut, end_cut, beyond}
use Rattle.model_line.specs.Origins.{frame_numbers, kind_of, entry_of}

pub ruleset count_laws = (length-range_with_len)

-- the marks of the entries from one on
abbrev pub marks_behind : ℕ → ℕ → ℕ → Option ℕ → List Row → List Marked
marks_behind short long n previous rows = marks frame_numbers n previous (map (entry_of short long) rows)

-- an entry with a mark, or without, before others
pub marks-marked : (short long n frames : ℕ) (previous next : Option ℕ) (rows : List Row) (row : Row) (behind : List Row) (m : Mark) → rows ≡ row ∷ behind → row.mark ≡ Some m
    → frames ≡ n + length (frames_given frame_numbers (kind_of short long row.kind) previous)
    → next ≡ previous_after (kind_of short long row.kind) previous
    → marks_behind short long n previous rows ≡ record { granule = m.granule; last = m.last; frames = frames } ∷ marks_behind short long frames next behind
unfolding marks
marks-marked short long n frames previous next rows row behind m split is frames-is next-is = rw (split, frames-is, next-is, is) refl

pub marks-unmarked : (short long n frames : ℕ) (previous next : Option ℕ) (rows : List Row) (row : Row) (behind : List Row) → rows ≡ row ∷ behind → row.mark ≡ None
    → frames ≡ n + length (frames_given frame_numbers (kind_of short long row.kind) previous)
    → next ≡ previous_after (kind_of short long row.kind) previous
    → marks_behind short long n previous rows ≡ marks_behind short long frames next behind
unfolding marks
marks-unmarked short long n frames previous next rows row behind split is frames-is next-is = rw (split, frames-is, next-is, is) refl

pub marks-none : (short long n : ℕ) (previous : Option ℕ) (rows : List Row) → rows ≡ [] → marks_behind short long n previous rows ≡ []
unfolding marks
marks-none short long n previous rows none = rw none refl

-- ---- the front: by the first of them

pub front_last : (ms rest : List Marked) (m : Marked) (total : ℕ) → ms ≡ m ∷ rest → m.last ≡ true → front_cut ms ≡ total → 0 ≡ total
unfolding front_cut
front_last ms rest m total is last h = let here = rw is at h in rw last at here

pub front_first : (ms rest : List Marked) (m : Marked) (total : ℕ) → ms ≡ m ∷ rest → m.last ≡ false → front_cut ms ≡ total → m.frames - m.granule ≡ total
unfolding front_cut
front_first ms rest m total is last h = let here = rw is at h in rw last at here

pub front_none : (ms : List Marked) (total : ℕ) → ms ≡ [] → front_cut ms ≡ total → 0 ≡ total
unfolding front_cut
front_none ms total is h = rw is at h

-- ---- the end: by the first of a last page

pub end_last : (before : Marked) (ms rest : List Marked) (m : Marked) (total : Stretch) → ms ≡ m ∷ rest → m.last ≡ true → end_cut before ms ≡ total → beyond before m ≡ total
unfolding end_cut
end_last before ms rest m total is last h = let here = rw is at h in rw last at here

pub end_on : (before : Marked) (ms rest : List Marked) (m : Marked) (total : Stretch) → ms ≡ m ∷ rest → m.last ≡ false → end_cut before ms ≡ total → end_cut m rest ≡ total
unfolding end_cut
end_on before ms rest m total is last h = let here = rw is at h in ap (λ b. cond b (beyond before m) (end_cut m rest)) (sym last) ∙ here

pub end_none : (before : Marked) (ms : List Marked) (total : Stretch) → ms ≡ [] → end_cut before ms ≡ total → record { from = before.frames; to = before.frames } ≡ total
unfolding end_cut
end_none before ms total is h = rw is at h
