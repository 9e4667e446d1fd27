-- Where cuts lie: the two never meet, and the one at the end ends with an entry.
use Rattle.std.proofs.Common.{ℕ, ◌+◌, ◌-◌, ◌≤◌, true, false, Bool, cond, List, [], ◌∷◌, ◌++◌, length, arith, Option, Some, None, ◌⊎◌, inl, inr}
use Rattle.model_ogg.specs.declared.page.Mark.{Mark}
use Rattle.model_line.specs.declared.trim.Marked.{Marked}
use Rattle.model_line.specs.declared.trim.Stretch.{Stretch}
use Rattle.model_line.specs.Decode.{LinkEntry, frames_given, previous_after}
use Rattle.model_line.specs.Trim.{marked, marks, front_cut, beyond, end_cut, no_mark, cuts_of, NeverMeet, AtEdge}
use Rattle.model_line.specs.Lines.{link_cuts}

-- marks in order: the frames up to them never fall, from so many on
Rise : ℕ → List Marked → Type 0
Rise n [] = Unit {0}
Rise n (m ∷ ms) = (n ≤ m.frames) × Rise m.frames ms

rise_more : (n k : ℕ) (ms : List Marked) → n ≤ k → Rise k ms → Rise n ms
unfolding Rise
rise_more n k [] le rise = tt
rise_more n k (m ∷ ms) le rise = (omega (arith, rise.0), rise.1)

rise_marked : (mark : Option Mark) (n : ℕ) (ms : List Marked) → Rise n ms → Rise n (marked mark n ++ ms)
unfolding Rise
rise_marked None n ms rise = rise
rise_marked (Some m) n ms rise = (omega arith, rise)

marks_rise : {B F : Type 0} (between : B → B → List F) (n : ℕ) (previous : Option B) (es : List (LinkEntry B)) → Rise n (marks between n previous es)
unfolding Rise marks
marks_rise between n previous [] = tt
marks_rise between n previous (e ∷ es) =
    let frames = n + length (frames_given between e.kind previous) in
    rise_more n frames (marked e.mark frames ++ marks between frames (previous_after e.kind previous) es) (omega arith) (rise_marked e.mark frames (marks between frames (previous_after e.kind previous) es) (marks_rise between frames (previous_after e.kind previous) es))

-- ---- the cut at the end lies behind the marks before it

end_step : (before m : Marked) (ms : List Marked) (b : Bool) (P : Stretch → Type 0) → P (beyond before m) → P (end_cut m ms) → P (cond b (beyond before m) (end_cut m ms))
end_step before m ms true P last on = last
end_step before m ms false P last on = on

end_from : (before : Marked) (ms : List Marked) → Rise before.frames ms → (before.frames ≤ (end_cut before ms).from) × ((end_cut before ms).from ≤ (end_cut before ms).to)
unfolding Rise end_cut
end_from before [] rise = (omega arith, omega arith)
end_from before (m ∷ ms) rise =
    let on = end_from m ms rise.1 in
    end_step before m ms m.last (λ (s : Stretch). (before.frames ≤ s.from) × (s.from ≤ s.to)) (omega (arith, rise.0), omega arith) (omega (arith, rise.0, on.0), on.1)

-- it ends where the marks before it end, or behind
end_to : (before : Marked) (n : ℕ) (ms : List Marked) → Rise n ms → ((end_cut before ms).to ≤ before.frames) ⊎ (n ≤ (end_cut before ms).to)
unfolding Rise end_cut
end_to before n [] rise = inl (omega arith)
end_to before n (m ∷ ms) rise =
    let on = end_from m ms rise.1 in
    end_step before m ms m.last (λ (s : Stretch). (s.to ≤ before.frames) ⊎ (n ≤ s.to)) (inr rise.0) (inr (omega (arith, rise.0, on.0, on.1)))

front_step : (m : Marked) (b : Bool) → cond b 0 (m.frames - m.granule) ≤ m.frames
front_step m true = omega arith
front_step m false = omega arith

meet_step : (before m : Marked) (ms : List Marked) (b : Bool) → Rise m.frames ms → cond b 0 (m.frames - m.granule) ≤ (cond b (beyond before m) (end_cut m ms)).from
meet_step before m ms true rise = omega arith
meet_step before m ms false rise = omega (arith, end_from m ms rise)

never_meet_marks : (ms : List Marked) → Rise 0 ms → NeverMeet (cuts_of ms)
unfolding Rise end_cut front_cut
never_meet_marks [] rise = record { front = omega arith; end = omega arith }
never_meet_marks (m ∷ ms) rise = record {
  front = meet_step no_mark m ms m.last rise.1;
  end = (end_from no_mark (m ∷ ms) rise).1;
}

pub never_meet : {B F : Type 0} (between : B → B → List F) (es : List (LinkEntry B)) → NeverMeet (link_cuts between es)
unfolding link_cuts
never_meet between es = never_meet_marks (marks between 0 None es) (marks_rise between 0 None es)

-- ---- edges

pub edge_passed : {B F : Type 0} (between : B → B → List F) (edge n : ℕ) (previous : Option B) (es : List (LinkEntry B)) → edge ≤ n → AtEdge between edge n previous es
unfolding AtEdge
edge_passed between edge n previous [] le = le
edge_passed between edge n previous (e ∷ es) le = inl le

edge_step : {B F : Type 0} (between : B → B → List F) (before : Marked) (n frames : ℕ) (previous next : Option B) (es : List (LinkEntry B)) (mark : Option Mark) → before.frames ≤ n → n ≤ frames
    → ((b : Marked) → b.frames ≤ frames → AtEdge between (end_cut b (marks between frames next es)).to frames next es)
    → let edge = (end_cut before (marked mark frames ++ marks between frames next es)).to in (edge ≤ n) ⊎ ((frames ≤ edge) × AtEdge between edge frames next es)
unfolding end_cut
edge_step between before n frames previous next es None le more ih =
    elim (end_to before frames (marks between frames next es) (marks_rise between frames next es)) [
      | inl small ↦ inl (omega (arith, small))
      | inr large ↦ inr (large, ih before (omega arith))
    ]
edge_step between before n frames previous next es (Some m) le more ih =
    let here : Marked = record { granule = m.granule; last = m.last; frames = frames } in
    let rest = marks between frames next es in
    let on = end_from here rest (marks_rise between frames next es) in
    inr (end_step before here rest m.last (λ (s : Stretch). (frames ≤ s.to) × AtEdge between s.to frames next es) (omega arith, edge_passed between frames frames next es (omega arith)) (omega (arith, on.0, on.1), ih here (omega arith)))

end_edge : {B F : Type 0} (between : B → B → List F) (before : Marked) (n : ℕ) (previous : Option B) (es : List (LinkEntry B)) → before.frames ≤ n → AtEdge between (end_cut before (marks between n previous es)).to n previous es
unfolding AtEdge marks end_cut
end_edge between before n previous [] le = le
end_edge between before n previous (e ∷ es) le =
    let frames = n + length (frames_given between e.kind previous) in
    let next = previous_after e.kind previous in
    edge_step between before n frames previous next es e.mark le (omega arith) (λ (b : Marked). λ at. end_edge between b frames next es at)

-- the cut at the end ends with an entry
pub end_at_edge : {B F : Type 0} (between : B → B → List F) (es : List (LinkEntry B)) → AtEdge between (link_cuts between es).end.to 0 None es
unfolding link_cuts
end_at_edge between es = end_edge between no_mark 0 None es (omega arith)
