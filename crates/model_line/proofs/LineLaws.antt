-- What holds of every line.
use Rattle.std.proofs.Common.{◌≡◌, ℕ, ◌+◌, ◌-◌, ◌≤◌, ◌<◌, true, false, Bool, cond, ◌&&◌, ◌||◌, List, [], ◌∷◌, length, refl, arith, Option, Some, None, inl, inr}
use Rattle.std.specs.Prelude.{nat_le, nat_lt, min, max}
use Rattle.std.proofs.lemmas.Bool.{le-leb, lt-leb, lt-ltb, le-ltb, cases_lt}
use Rattle.model_line.specs.declared.trim.Cuts.{Cuts}
use Rattle.model_line.specs.Decode.{Kind, missing, skipped, decoded, LinkEntry, LineItem, frame, gap, frames_given, items_given, previous_after, linear_decode, frame_count}
use Rattle.model_line.specs.Trim.{trimmed, stays, NeverMeet, AtEdge}
use Rattle.model_line.specs.Lines.{link_cuts, link_line}
use Rattle.model_line.specs.Origins.{frame_numbers}
use Rattle.model_line.specs.Laws.{CutsApart, GapsStay, FramesGo}
use Rattle.model_line.proofs.Counts.{frame_count-append, frame_count-frames, gap_count-trimmed}
use Rattle.model_line.proofs.Edges.{never_meet, end_at_edge}

-- ---- an edge lies within the frames of the entries

count_given : {B F : Type 0} (link : ℕ) (between : B → B → List F) (kind : Kind B) (previous : Option B) → frame_count (items_given link between kind previous) ≡ length (frames_given between kind previous)
unfolding frame_count
count_given link between (missing kind) previous = refl
count_given link between skipped previous = refl
count_given link between (decoded b) None = refl
count_given link between (decoded b) (Some a) = frame_count-frames link (between a b)

edge_within : {B F : Type 0} (link : ℕ) (between : B → B → List F) (edge n : ℕ) (previous : Option B) (es : List (LinkEntry B)) → AtEdge between edge n previous es → edge ≤ n + frame_count (linear_decode link between previous es)
unfolding AtEdge linear_decode frame_count
edge_within link between edge n previous [] at = omega (arith, at)
edge_within link between edge n previous (e ∷ es) (inl le) = omega (arith, le)
edge_within link between edge n previous (e ∷ es) (inr more) =
    let rest = linear_decode link between (previous_after e.kind previous) es in
    omega (arith, edge_within link between edge (n + length (frames_given between e.kind previous)) (previous_after e.kind previous) es more.1, frame_count-append (items_given link between e.kind previous) rest, count_given link between e.kind previous)

pub cuts_apart : CutsApart
cuts_apart = λ link. λ es. (never_meet frame_numbers es, omega (arith, edge_within link frame_numbers (link_cuts frame_numbers es).end.to 0 None es (end_at_edge frame_numbers es)))

pub gaps_stay : GapsStay
unfolding link_line
gaps_stay = λ link. λ es. gap_count-trimmed (link_cuts frame_numbers es) 0 (linear_decode link frame_numbers None es)

-- ---- how many frames go

and_false : (b : Bool) → (b && false) ≡ false
and_false true = refl
and_false false = refl

or_true : (b : Bool) → (b || true) ≡ true
or_true true = refl
or_true false = refl

-- of the frames numbered from n to end, those that a stretch has
within : ℕ → ℕ → ℕ → ℕ → ℕ
within n end from to = min end to - max n from

within_none : (n from to : ℕ) → within n (n + 0) from to ≡ 0
unfolding within
within_none n from to = omega arith

within_all : (end from to : ℕ) → from ≤ to → to ≤ end → within 0 (0 + end) from to ≡ to - from
unfolding within
within_all end from to le more = omega arith

step_count : {F : Type 0} (cuts : Cuts) (n end : ℕ) (link : ℕ) (f : F) → NeverMeet cuts → n < end
    → frame_count (cond (stays cuts n) (frame link f ∷ []) []) + within n end 0 cuts.front + within n end cuts.end.from cuts.end.to ≡ 1 + within (n + 1) end 0 cuts.front + within (n + 1) end cuts.end.from cuts.end.to
unfolding frame_count within
step_count cuts n end link f apart lt =
    let meet = apart.front in
    let ends = apart.end in
    elim (cases_lt n cuts.front) [
      | inl before ↦ rw (lt-leb cuts.front n before) (omega arith)
      | inr behind ↦ elim (cases_lt n cuts.end.from) [
        | inl stay ↦ rw (le-leb cuts.front n behind, lt-ltb n cuts.end.from stay) (omega arith)
        | inr late ↦ elim (cases_lt n cuts.end.to) [
          | inl go ↦ rw (le-ltb n cuts.end.from late, lt-leb cuts.end.to n go, and_false (nat_le cuts.front n)) (omega arith)
          | inr last ↦ rw (le-leb cuts.front n behind, le-leb cuts.end.to n last, or_true (nat_lt n cuts.end.from)) (omega arith)
        ]
      ]
    ]

count_trimmed : {F : Type 0} (cuts : Cuts) (n : ℕ) (xs : List (LineItem F)) → NeverMeet cuts
    → frame_count (trimmed cuts n xs) + within n (n + frame_count xs) 0 cuts.front + within n (n + frame_count xs) cuts.end.from cuts.end.to ≡ frame_count xs
unfolding trimmed frame_count
count_trimmed cuts n [] apart = omega (arith, within_none n cuts.end.from cuts.end.to, within_none n 0 cuts.front)
count_trimmed cuts n (frame link f ∷ xs) apart =
    let e : n + 1 + frame_count xs ≡ n + (1 + frame_count xs) = omega arith in
    let here = step_count cuts n (n + (1 + frame_count xs)) link f apart (omega arith) in
    let more = rw e at (count_trimmed cuts (n + 1) xs apart) in
    let split = frame_count-append (cond (stays cuts n) (frame link f ∷ []) []) (trimmed cuts (n + 1) xs) in
    omega (arith, here, more, split)
count_trimmed cuts n (gap link kind ∷ xs) apart = count_trimmed cuts n xs apart

pub frames_go : FramesGo
unfolding link_line
frames_go = λ link. λ es.
    let cuts = link_cuts frame_numbers es in
    let xs = linear_decode link frame_numbers None es in
    let apart = cuts_apart link es in
    omega (arith, count_trimmed cuts 0 xs apart.0, within_all (frame_count xs) 0 cuts.front (omega arith) (omega (arith, apart.0.front, apart.0.end, apart.1)), within_all (frame_count xs) cuts.end.from cuts.end.to apart.0.end apart.1)
