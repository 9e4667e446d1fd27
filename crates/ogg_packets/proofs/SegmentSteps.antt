-- The segments of a page, one at a time.
use Rattle.std.proofs.Common.{◌≡◌, ℕ, ◌+◌, ◌<◌, ◌≤◌, Bool, true, false, cond, nat_lt, ◌||◌, List, [], ◌∷◌, ◌++◌, length, take, drop, get_or, Option, Some, None, refl, sym, ap, ◌∙◌, append_assoc, arith}
use Rattle.std.specs.Prelude.{All}
use Rattle.std.specs.List.{list_any}
use Rattle.std.proofs.lemmas.List.{at_drop_more, drop_all, drop-drop, append-nil, map-append, length-append, length-map}
use Rattle.std.proofs.lemmas.Bool.{lt-ltb, le-ltb}
use Rattle.std.proofs.lemmas.List.Elements.{All-push}
use Rattle.ogg_packets.specs.declared.pieces.Piece.{Piece}
use Rattle.model_ogg.specs.declared.page.Mark.{Mark}
use Rattle.ogg_packets.specs.declared.entry.Entry.{Entry}
use Rattle.ogg_packets.specs.declared.entry.Entry.TheVariants.{Packet}
use Rattle.model_ogg.specs.Entries.{StreamItem, packet, ends, segments, with_segment, packets_ended, packet_ended, one_pending, left_pending}
use Rattle.ogg_packets.specs.Entries.{item_of, items_of, pending_of, EntryLiesBefore, LieBefore}
use Rattle.ogg_packets.specs.Pieces.{joined, AddsPiece, LiesBefore}

pub segments-more : (laces : List ℕ) (i : ℕ) (body : List ℕ) → i < length laces
    → segments (drop i laces) body ≡ (get_or laces i 0, take (get_or laces i 0) body) ∷ segments (drop (i + 1) laces) (drop (get_or laces i 0) body)
unfolding segments
segments-more laces i body lt = at_drop_more (λ ls. segments ls body) laces i 0 lt

pub any-segments : (laces body : List ℕ) → list_any ends (segments laces body) ≡ list_any (λ n. nat_lt n 255) laces
unfolding segments
any-segments [] body = refl
any-segments (n ∷ ns) body = ap (λ (b : Bool). nat_lt n 255 || b) (any-segments ns (drop n body))

-- the open packet with one piece more
pub with_segment_added : (bytes : List ℕ) (before after : List Piece) (piece : Piece) → AddsPiece before piece after → joined bytes after ≡ with_segment (Some (joined bytes before)) (take piece.len (drop piece.place bytes))
with_segment_added bytes before after piece adds = adds.bytes bytes

-- entries with one more
pub one_more : (bytes : List ℕ) (before now : List Entry) (entry : Entry) → now ≡ before ++ entry ∷ [] → items_of bytes now ≡ items_of bytes before ++ items_of bytes (entry ∷ [])
one_more bytes before now entry e = rw e (map-append _ before (entry ∷ []))

pub segments_go_on : (laces bytes : List ℕ) (i at : ℕ) (mark own : Option Mark) (pending left total-left : Option (List ℕ)) (before now total : List StreamItem) → i < length laces
    → own ≡ cond (list_any (λ n. nat_lt n 255) (drop (i + 1) laces)) None mark
    → now ≡ before ++ packet_ended own pending (get_or laces i 0, take (get_or laces i 0) (drop at bytes))
    → left ≡ one_pending pending (get_or laces i 0, take (get_or laces i 0) (drop at bytes))
    → before ++ packets_ended mark pending (segments (drop i laces) (drop at bytes)) ≡ total
    → left_pending pending (segments (drop i laces) (drop at bytes)) ≡ total-left
    → (now ++ packets_ended mark left (segments (drop (i + 1) laces) (drop (at + get_or laces i 0) bytes)) ≡ total)
    × (left_pending left (segments (drop (i + 1) laces) (drop (at + get_or laces i 0) bytes)) ≡ total-left)
unfolding packets_ended left_pending
segments_go_on laces bytes i at mark own pending left total-left before now total lt own-is now-is left-is items-is pending-is =
    let n = get_or laces i 0 in
    let more = segments-more laces i (drop at bytes) lt in
    let rest : drop n (drop at bytes) ≡ drop (at + n) bytes = drop-drop n at bytes in
    let any = any-segments (drop (i + 1) laces) (drop n (drop at bytes)) in
    let step : packets_ended mark pending (segments (drop i laces) (drop at bytes))
    ≡ packet_ended (cond (list_any (λ k. nat_lt k 255) (drop (i + 1) laces)) None mark) pending (n, take n (drop at bytes)) ++ packets_ended mark (one_pending pending (n, take n (drop at bytes))) (segments (drop (i + 1) laces) (drop n (drop at bytes))) = rw (more, any) refl in (
      rw (now-is, left-is, own-is, ← rest) (append_assoc before _ _ ∙ ap (λ (x : List StreamItem). before ++ x) (sym step) ∙ items-is),
      rw (left-is, ← rest) (rw more at pending-is),
    )

pub segments_end : (laces bytes : List ℕ) (i at : ℕ) (mark : Option Mark) (pending total-left : Option (List ℕ)) (before total : List StreamItem) → length laces ≤ i
    → before ++ packets_ended mark pending (segments (drop i laces) (drop at bytes)) ≡ total
    → left_pending pending (segments (drop i laces) (drop at bytes)) ≡ total-left
    → (before ≡ total) × (pending ≡ total-left)
unfolding segments packets_ended left_pending
segments_end laces bytes i at mark pending total-left before total le items-is pending-is =
    let none : drop i laces ≡ [] = drop_all i laces le in
    (sym (append-nil before) ∙ rw none at items-is, rw none at pending-is)

pub packet_ends : (bytes : List ℕ) (before now : List Entry) (place lace : ℕ) (mark : Option Mark) (pending : Option (List ℕ)) (pieces : List Piece) → lace < 255
    → joined bytes pieces ≡ with_segment pending (take lace (drop place bytes)) → now ≡ before ++ Packet pieces mark ∷ []
    → items_of bytes now ≡ items_of bytes before ++ packet_ended mark pending (lace, take lace (drop place bytes))
packet_ends bytes before now place lace mark pending pieces lt same now-is =
    let test : nat_lt lace 255 ≡ true = lt-ltb lace 255 lt in
    rw (test, ← same) (one_more bytes before now (Packet pieces mark) now-is)

pub packet_goes_on : (bytes : List ℕ) (place lace : ℕ) (pending : Option (List ℕ)) (pieces : List Piece) → 255 ≤ lace
    → joined bytes pieces ≡ with_segment pending (take lace (drop place bytes))
    → pending_of bytes (Some pieces) ≡ one_pending pending (lace, take lace (drop place bytes))
packet_goes_on bytes place lace pending pieces le same =
    let test : nat_lt lace 255 ≡ false = le-ltb lace 255 le in
    rw (test, same) refl

pub none_left : (lace : ℕ) (segment : List ℕ) → lace < 255 → None ≡ one_pending None (lace, segment)
none_left lace segment lt = let test : nat_lt lace 255 ≡ true = lt-ltb lace 255 lt in rw test refl

-- a list of n entries, and one more that n + 1 would not hold
pub one_too_many : (bytes : List ℕ) (before : List Entry) (limit : ℕ) (more : List StreamItem) (item : StreamItem) → limit ≤ length before → more ≡ item ∷ [] → limit < length (items_of bytes before ++ more)
one_too_many bytes before limit more item le e =
    rw e (omega (arith, length-append (items_of bytes before) (item ∷ []), length-map before (λ (x : Entry). item_of bytes x)))

pub packet_too_many : (bytes : List ℕ) (before : List Entry) (limit place lace : ℕ) (mark : Option Mark) (pending : Option (List ℕ)) → lace < 255 → limit ≤ length before
    → limit < length (items_of bytes before ++ packet_ended mark pending (lace, take lace (drop place bytes)))
packet_too_many bytes before limit place lace mark pending lt le =
    let test : nat_lt lace 255 ≡ true = lt-ltb lace 255 lt in
    one_too_many bytes before limit _ (packet (with_segment pending (take lace (drop place bytes))) mark) le (rw test refl)

-- more follow those that are too many
pub more_too_many : (before one rest total : List StreamItem) (limit : ℕ) → before ++ (one ++ rest) ≡ total → limit < length (before ++ one) → limit < length total
more_too_many before one rest total limit e lt =
    let split : length (before ++ (one ++ rest)) ≡ length (before ++ one) + length rest = ap length (sym (append_assoc before one rest)) ∙ length-append (before ++ one) rest in
    let whole : length (before ++ (one ++ rest)) ≡ length total = ap length e in
    omega arith

pub packet_lies : (end : ℕ) (before now : List Entry) (pending : Option (List Piece)) (pieces : List Piece) (mark : Option Mark) → now ≡ before ++ Packet pieces mark ∷ [] → All (LiesBefore end) pieces
    → LieBefore end before pending → LieBefore end now None
packet_lies end before now pending pieces mark e here lie = record {
  entries = rw e (All-push (EntryLiesBefore end) before (Packet pieces mark) lie.entries here);
  pending = tt;
}

pub segments_too_many : (laces bytes : List ℕ) (i at : ℕ) (mark own : Option Mark) (pending : Option (List ℕ)) (before total : List StreamItem) (limit : ℕ) → i < length laces
    → own ≡ cond (list_any (λ n. nat_lt n 255) (drop (i + 1) laces)) None mark
    → limit < length (before ++ packet_ended own pending (get_or laces i 0, take (get_or laces i 0) (drop at bytes)))
    → before ++ packets_ended mark pending (segments (drop i laces) (drop at bytes)) ≡ total
    → limit < length total
unfolding packets_ended
segments_too_many laces bytes i at mark own pending before total limit lt own-is many items-is =
    let n = get_or laces i 0 in
    let more = segments-more laces i (drop at bytes) lt in
    let any = any-segments (drop (i + 1) laces) (drop n (drop at bytes)) in
    let step : packets_ended mark pending (segments (drop i laces) (drop at bytes))
    ≡ packet_ended (cond (list_any (λ k. nat_lt k 255) (drop (i + 1) laces)) None mark) pending (n, take n (drop at bytes)) ++ packets_ended mark (one_pending pending (n, take n (drop at bytes))) (segments (drop (i + 1) laces) (drop n (drop at bytes))) = rw (more, any) refl in
    more_too_many before _ _ total limit (ap (λ (x : List StreamItem). before ++ x) (sym step) ∙ items-is) (rw own-is at many)
