-- What the granule positions of a link cut off (Vorbis I, appendix A.2, narrowed to two of its
-- rules): frames at the front, by the first mark, and frames at the end, by the first mark of a
-- last page. All other granule positions are ignored.
use Rattle.std.specs.Prelude.{ℕ, ◌+◌, ◌-◌, ◌≤◌, ◌⊎◌, Bool, false, ◌&&◌, ◌||◌, nat_le, nat_lt, if◌then◌else◌, List, [], ◌∷◌, ◌++◌, length, Option, Some, None}
use Rattle.model_ogg.specs.declared.page.Mark.{Mark}
use Rattle.model_line.specs.declared.trim.Cuts.{Cuts}
use Rattle.model_line.specs.declared.trim.Marked.{Marked}
use Rattle.model_line.specs.declared.trim.Stretch.{Stretch}
use Rattle.model_line.specs.Decode.{LinkEntry, LineItem, frame, gap, frames_given, previous_after}

abbrev pub marked : Option Mark → ℕ → List Marked
marked None frames = []
marked (Some m) frames = record { granule = m.granule; last = m.last; frames = frames } ∷ []

-- The marks of a link's entries, in order, where so many frames were given before. The mark of each
-- entry counts, whatever its kind.
unfoldable pub marks : {B F : Type 0} → (B → B → List F) → ℕ → Option B → List (LinkEntry B)
    → List Marked
marks between n previous [] = []
marks between n previous (e ∷ es) =
    let frames = n + length (frames_given between e.kind previous) in
    marked e.mark frames ++ marks between frames (previous_after e.kind previous) es

-- How many frames go at the front: where the first mark says less than the frames that were given
-- up to it, the line began before the link did, and the frames that are too many go (appendix A.2:
-- a first page with fewer samples than its packets give). Not if its page is the last of its
-- stream.
unfoldable pub front_cut : List Marked → ℕ
front_cut [] = 0
front_cut (m ∷ ms) = if m.last then 0 else m.frames - m.granule

-- the last of the frames between two marks: those beyond what the granule positions allow
abbrev pub beyond : Marked → Marked → Stretch
beyond before m = record {
  from = m.frames - ((m.frames - before.frames) - (m.granule - before.granule));
  to = m.frames;
}

-- Which frames go at the end: by the first mark of a last page and the mark before it (appendix
-- A.2: the last page's position ends the stream within its last block). Without one, none.
unfoldable pub end_cut : Marked → List Marked → Stretch
end_cut before [] = record { from = before.frames; to = before.frames }
end_cut before (m ∷ ms) = if m.last then beyond before m else end_cut m ms

-- what a link begins with
abbrev pub no_mark : Marked
no_mark = record { granule = 0; last = false; frames = 0 }

abbrev pub cuts_of : List Marked → Cuts
cuts_of ms = record { front = front_cut ms; end = end_cut no_mark ms }

-- the frame of this number stays
abbrev pub stays : Cuts → ℕ → Bool
stays cuts n = nat_le cuts.front n && (nat_lt n cuts.end.from || nat_le cuts.end.to n)

-- The items that stay, where the first frame among them has this number. A gap always stays.
unfoldable pub trimmed : {F : Type 0} → Cuts → ℕ → List (LineItem F) → List (LineItem F)
trimmed cuts n [] = []
trimmed cuts n (frame link value ∷ xs) =
    (if stays cuts n then frame link value ∷ [] else []) ++ trimmed cuts (n + 1) xs
trimmed cuts n (gap link kind ∷ xs) = gap link kind ∷ trimmed cuts n xs

-- the two cuts do not meet
pub record NeverMeet (cuts : Cuts) : Type 0 where
  pub front : cuts.front ≤ cuts.end.from
  pub end : cuts.end.from ≤ cuts.end.to

-- An edge between entries: so many frames were given up to and with one of the entries, or none
-- were, where these entries come after so many frames.
unfoldable pub AtEdge : {B F : Type 0} → (B → B → List F) → ℕ → ℕ → Option B → List (LinkEntry B)
    → Type 0
AtEdge between edge n previous [] = edge ≤ n
AtEdge between edge n previous (e ∷ es) =
    let frames = n + length (frames_given between e.kind previous) in
    (edge ≤ n) ⊎ ((frames ≤ edge) × AtEdge between edge frames (previous_after e.kind previous) es)
