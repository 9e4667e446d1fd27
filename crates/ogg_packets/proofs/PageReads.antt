-- What reading a page adds is what the page adds.
use Rattle.std.proofs.Common.{◌≡◌, ℕ, ◌+◌, ◌<◌, ◌==◌, Bool, true, false, cond, not, List, [], ◌∷◌, ◌++◌, length, take, drop, sum, Option, Some, None, refl, sym, ap, ◌∙◌, append_assoc, arith}
use Rattle.std.specs.Prelude.{is_some, All}
use Rattle.std.proofs.lemmas.Bool.{ne_eqb}
use Rattle.std.proofs.lemmas.List.{drop-drop, map-append, append-nil, length-append, length-map}
use Rattle.std.proofs.lemmas.List.Elements.{All-push}
use Rattle.model_ogg.specs.declared.page.TheConstants.{HEADER_LEN}
use Rattle.model_ogg.specs.declared.page.PageRef.{PageRef}
use Rattle.ogg_packets.specs.declared.pieces.Piece.{Piece}
use Rattle.ogg_packets.specs.declared.entry.Entry.{Entry}
use Rattle.ogg_packets.specs.declared.entry.Entry.TheVariants.{Lost}
use Rattle.model_ogg.specs.Pages.{laces_of}
use Rattle.model_ogg.specs.Entries.{StreamItem, lost, segments, segments_of, after_end, packets_ended, left_pending, has_any, loses, forgets, has_orphan, mark_of, page_items, page_pending, kept_pending, kept_segments}
use Rattle.ogg_packets.specs.Entries.{item_of, items_of, pending_of, EntryLiesBefore, PendingLiesBefore, LieBefore}

has_any-segments : (laces body : List ℕ) → has_any (segments laces body) ≡ not (length laces == 0)
unfolding segments
has_any-segments [] body = refl
has_any-segments (n ∷ ns) body = rw (ne_eqb (length (n ∷ ns)) 0 (λ e. absurd (omega (arith, e)))) refl

is_some-pending_of : (bytes : List ℕ) (pending : Option (List Piece)) → is_some (pending_of bytes pending) ≡ is_some pending
is_some-pending_of bytes None = refl
is_some-pending_of bytes (Some ps) = refl

pending_of-kept : (bytes : List ℕ) (b : Bool) (pending : Option (List Piece)) → pending_of bytes (cond b None pending) ≡ cond b None (pending_of bytes pending)
pending_of-kept bytes true pending = refl
pending_of-kept bytes false pending = refl

items_of-loss : (bytes : List ℕ) (b : Bool) → items_of bytes (cond b (Lost ∷ []) []) ≡ cond b (lost ∷ []) []
items_of-loss bytes true = refl
items_of-loss bytes false = refl

pub page_read : (bytes : List ℕ) (expected : Option ℕ) (pending kept : Option (List Piece)) (p : PageRef) (laces : List ℕ) (n place : ℕ) (is_lost dropped orphan none : Bool)
    → laces ≡ laces_of bytes p → none ≡ (length laces == 0)
    → is_lost ≡ loses expected (is_some pending) p (not none)
    → dropped ≡ forgets expected p (not none)
    → kept ≡ cond dropped None pending
    → orphan ≡ has_orphan p (is_some kept)
    → ((body : List ℕ) → cond orphan (after_end (segments laces body)) (segments laces body) ≡ segments (drop n laces) (drop (sum (take n laces)) body))
    → place ≡ p.place + HEADER_LEN + p.segments + sum (take n laces)
    → (page_items expected (pending_of bytes pending) p (segments_of bytes p) ≡ items_of bytes (cond is_lost (Lost ∷ []) []) ++ packets_ended (mark_of p) (pending_of bytes kept) (segments (drop n laces) (drop place bytes)))
    × (page_pending expected (pending_of bytes pending) p (segments_of bytes p) ≡ left_pending (pending_of bytes kept) (segments (drop n laces) (drop place bytes)))
unfolding page_items page_pending
page_read bytes expected pending kept p laces n place is_lost dropped orphan none laces-is none-is lost-is dropped-is kept-is orphan-is behind place-is =
    let body = drop (HEADER_LEN + p.segments) (drop p.place bytes) in
    let any : has_any (segments laces body) ≡ not none = has_any-segments laces body ∙ ap not (sym none-is) in
    let at : drop (sum (take n laces)) body ≡ drop place bytes =
    drop-drop (sum (take n laces)) (HEADER_LEN + p.segments) (drop p.place bytes) ∙ drop-drop (HEADER_LEN + p.segments + sum (take n laces)) p.place bytes ∙ ap (λ k. drop k bytes) (omega (arith, place-is)) in
    let kept-same : kept_pending expected (pending_of bytes pending) p (segments laces body) ≡ pending_of bytes kept =
    rw (any, ← dropped-is, kept-is) (sym (pending_of-kept bytes dropped pending)) in
    let rest-same : kept_segments (pending_of bytes kept) p (segments laces body) ≡ segments (drop n laces) (drop place bytes) =
    rw (is_some-pending_of bytes kept, ← orphan-is, ← at) (behind body) in
    let loss-same : cond (loses expected (is_some (pending_of bytes pending)) p (has_any (segments laces body))) (lost ∷ []) [] ≡ items_of bytes (cond is_lost (Lost ∷ []) []) =
    rw (is_some-pending_of bytes pending, any, ← lost-is) (sym (items_of-loss bytes is_lost)) in
    rw (← laces-is) (
      rw (kept-same, rest-same, loss-same) refl,
      rw (kept-same, rest-same) refl,
    )

-- a loss, and then what the segments add
pub added : (bytes : List ℕ) (before mid now extra : List Entry) (tail total : List StreamItem) → mid ≡ before ++ extra → items_of bytes now ≡ items_of bytes mid ++ tail → total ≡ items_of bytes extra ++ tail
    → items_of bytes now ≡ items_of bytes before ++ total
added bytes before mid now extra tail total mid-is now-is total-is =
    now-is ∙ ap (λ (es : List Entry). items_of bytes es ++ tail) mid-is ∙ ap (λ (x : List StreamItem). x ++ tail) (map-append (λ (e : Entry). item_of bytes e) before extra)
    ∙ append_assoc (items_of bytes before) (items_of bytes extra) tail ∙ ap (λ (x : List StreamItem). items_of bytes before ++ x) (sym total-is)

pub loss_lies : (end : ℕ) (before now : List Entry) (pending kept : Option (List Piece)) (is_lost dropped : Bool) → now ≡ before ++ cond is_lost (Lost ∷ []) [] → kept ≡ cond dropped None pending
    → LieBefore end before pending → LieBefore end now kept
loss_lies end before now pending kept is_lost dropped now-is kept-is lie = record {
  entries = rw now-is (lost_lie is_lost);
  pending = rw kept-is (kept_lies dropped);
}
  where
    lost_lie : (b : Bool) → All (EntryLiesBefore end) (before ++ cond b (Lost ∷ []) [])
    lost_lie true = All-push (EntryLiesBefore end) before Lost lie.entries tt
    lost_lie false = rw (append-nil before) lie.entries

    kept_lies : (b : Bool) → PendingLiesBefore end (cond b None pending)
    kept_lies true = tt
    kept_lies false = lie.pending

pub loss_too_many : (bytes : List ℕ) (expected : Option ℕ) (pending : Option (List Piece)) (p : PageRef) (laces : List ℕ) (is_lost none : Bool) (before : List Entry) (limit : ℕ)
    → laces ≡ laces_of bytes p → none ≡ (length laces == 0)
    → is_lost ≡ loses expected (is_some pending) p (not none)
    → limit < length (before ++ cond is_lost (Lost ∷ []) [])
    → limit < length (items_of bytes before ++ page_items expected (pending_of bytes pending) p (segments_of bytes p))
unfolding page_items
loss_too_many bytes expected pending p laces is_lost none before limit laces-is none-is lost-is many =
    let body = drop (HEADER_LEN + p.segments) (drop p.place bytes) in
    let any : has_any (segments laces body) ≡ not none = has_any-segments laces body ∙ ap not (sym none-is) in
    let loss-same : cond (loses expected (is_some (pending_of bytes pending)) p (has_any (segments laces body))) (lost ∷ []) [] ≡ items_of bytes (cond is_lost (Lost ∷ []) []) =
    rw (is_some-pending_of bytes pending, any, ← lost-is) (sym (items_of-loss bytes is_lost)) in
    rw (← laces-is, loss-same) (longer before (cond is_lost (Lost ∷ []) []) _ many)
  where
    longer : (front extra : List Entry) (tail : List StreamItem) → limit < length (front ++ extra) → limit < length (items_of bytes front ++ (items_of bytes extra ++ tail))
    longer front extra tail lt = omega (
      arith,
      length-append front extra,
      length-append (items_of bytes front) (items_of bytes extra ++ tail),
      length-append (items_of bytes extra) tail,
      length-map front (λ (x : Entry). item_of bytes x),
      length-map extra (λ (x : Entry). item_of bytes x),
    )

pub rest_too_many : (bytes : List ℕ) (before mid extra : List Entry) (tail total : List StreamItem) (limit : ℕ) → mid ≡ before ++ extra → total ≡ items_of bytes extra ++ tail
    → limit < length (items_of bytes mid ++ tail) → limit < length (items_of bytes before ++ total)
rest_too_many bytes before mid extra tail total limit mid-is total-is many =
    let same : items_of bytes mid ++ tail ≡ items_of bytes before ++ total =
    ap (λ (es : List Entry). items_of bytes es ++ tail) mid-is ∙ ap (λ (x : List StreamItem). x ++ tail) (map-append (λ (e : Entry). item_of bytes e) before extra)
    ∙ append_assoc (items_of bytes before) (items_of bytes extra) tail ∙ ap (λ (x : List StreamItem). items_of bytes before ++ x) (sym total-is) in
    rw (← same) many
