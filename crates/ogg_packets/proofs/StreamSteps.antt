-- The pages of a stream, one at a time.
use Rattle.std.proofs.Common.{◌≡◌, ℕ, ◌<◌, ◌≤◌, ◌==◌, true, false, cond, List, [], ◌∷◌, ◌++◌, length, Option, Some, None, refl, ◌∙◌, append_assoc, inl, inr, arith}
use Rattle.std.specs.Prelude.{is_some, All}
use Rattle.std.specs.List.{AllByRecursion}
use Rattle.std.proofs.lemmas.Bool.{eq-eqb, ne_eqb, cases_Bool}
use Rattle.std.proofs.lemmas.List.Elements.{All-from_recursion, All-head, All-tail}
use Rattle.model_ogg.specs.declared.page.PageRef.{PageRef}
use Rattle.ogg_packets.specs.declared.pieces.Piece.{Piece}
use Rattle.ogg_packets.proofs.SegmentSteps.{more_too_many}
use Rattle.model_ogg.specs.Streams.{is_last, through_last, stream_of}
use Rattle.model_ogg.specs.Entries.{StreamItem, lost, segments_of, page_items, page_pending, next_sequence, items_after}
use Rattle.ogg_packets.specs.Entries.{pending_of}

pub stream_of-other : (serial : ℕ) (p : PageRef) (ps : List PageRef) → (p.serial ≡ serial → ⊥) → stream_of serial (p ∷ ps) ≡ stream_of serial ps
stream_of-other serial p ps ne = (let test : (p.serial == serial) ≡ false = ne_eqb _ _ ne in rw test refl)

pub stream_of-page : (serial : ℕ) (p : PageRef) (ps behind : List PageRef) → p.serial ≡ serial → behind ≡ cond (is_last p) [] ps → stream_of serial (p ∷ ps) ≡ p ∷ stream_of serial behind
unfolding through_last
stream_of-page serial p ps behind e behind-is =
    let test : (p.serial == serial) ≡ true = eq-eqb _ _ e in
    elim (cases_Bool (is_last p)) [
      | inl ends ↦ rw behind-is (rw (test, ends) refl)
      | inr goes ↦ rw behind-is (rw (test, goes) refl)
    ]

pub stream_of-none : (serial : ℕ) (ps : List PageRef) → length ps ≡ 0 → stream_of serial ps ≡ []
unfolding through_last
stream_of-none serial [] e = refl
stream_of-none serial (p ∷ ps) e = absurd (omega (arith, e))

-- a stream has no more pages than there are
pub stream_within : (serial : ℕ) (ps : List PageRef) → length (stream_of serial ps) ≤ length ps
unfolding through_last
stream_within serial [] = omega arith
stream_within serial (p ∷ ps) =
    let more = stream_within serial ps in
    elim (cases_Bool (p.serial == serial)) [
      | inl same ↦
          elim (cases_Bool (is_last p)) [
            | inl ends ↦ rw (same, ends) (omega arith)
            | inr goes ↦ rw (same, goes) (omega arith)
          ]
      | inr other ↦ rw other (omega arith)
    ]

-- what holds of all pages holds of those of a stream
all_by_recursion : (P : PageRef → Type 0) (serial : ℕ) (ps : List PageRef) → All P ps → AllByRecursion P (stream_of serial ps)
unfolding through_last
all_by_recursion P serial [] all = tt
all_by_recursion P serial (p ∷ ps) all =
    let head = All-head P p ps all in
    let more = all_by_recursion P serial ps (All-tail P p ps all) in
    elim (cases_Bool (p.serial == serial)) [
      | inl same ↦
          elim (cases_Bool (is_last p)) [
            | inl ends ↦ rw (same, ends) (head, tt)
            | inr goes ↦ rw (same, goes) (head, more)
          ]
      | inr other ↦ rw other more
    ]

pub All-stream_of : (P : PageRef → Type 0) (serial : ℕ) (ps : List PageRef) → All P ps → All P (stream_of serial ps)
All-stream_of P serial ps all = All-from_recursion P (stream_of serial ps) (all_by_recursion P serial ps all)

-- the first page of a stream, and those behind it
pub first_of : (P : PageRef → Type 0) (stream rest : List PageRef) (p : PageRef) → stream ≡ p ∷ rest → All P stream → P p × All P rest
first_of P stream rest p e all =
    let split : All P (p ∷ rest) = rw e at all in
    (All-head P p rest split, All-tail P p rest split)

pub ruleset stream_laws = (stream_of-other, stream_of-page)

-- one page more of a stream
pub stream_step : (bytes : List ℕ) (stream rest : List PageRef) (p : PageRef) (expected : Option ℕ) (pending left : Option (List ℕ)) (before now total : List StreamItem) → stream ≡ p ∷ rest
    → now ≡ before ++ page_items expected pending p (segments_of bytes p)
    → left ≡ page_pending expected pending p (segments_of bytes p)
    → before ++ items_after bytes expected pending stream ≡ total
    → now ++ items_after bytes (Some (next_sequence p)) left rest ≡ total
unfolding items_after
stream_step bytes stream rest p expected pending left before now total stream-is now-is left-is h =
    let whole = rw stream-is at h in
    rw (now-is, left-is) (append_assoc before _ _ ∙ whole)

-- its entries are too many already
pub stream_too_many : (bytes : List ℕ) (stream rest : List PageRef) (p : PageRef) (expected : Option ℕ) (pending : Option (List ℕ)) (before total : List StreamItem) (limit : ℕ) → stream ≡ p ∷ rest
    → limit < length (before ++ page_items expected pending p (segments_of bytes p))
    → before ++ items_after bytes expected pending stream ≡ total
    → limit < length total
unfolding items_after
stream_too_many bytes stream rest p expected pending before total limit stream-is many h =
    let whole = rw stream-is at h in
    more_too_many before _ _ total limit whole many

-- what is open at the end
pub stream_end : (bytes : List ℕ) (rest : List PageRef) (expected : Option ℕ) (pending : Option (List Piece)) (left : Option (List ℕ)) (now total : List StreamItem) → rest ≡ [] → left ≡ pending_of bytes pending
    → now ++ items_after bytes expected left rest ≡ total
    → now ++ cond (is_some pending) (lost ∷ []) [] ≡ total
unfolding items_after
stream_end bytes rest expected None left now total rest-is left-is h = rw (rest-is, left-is) at h
stream_end bytes rest expected (Some pieces) left now total rest-is left-is h = rw (rest-is, left-is) at h
