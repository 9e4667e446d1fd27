-- The pieces of a packet, joined one at a time.
use Rattle.std.proofs.Common.{◌≡◌, ℕ, ◌+◌, ◌-◌, ◌<◌, ◌≤◌, List, [], ◌++◌, length, take, drop, get_or, sym, ap, ◌∙◌, append_assoc, arith}
use Rattle.std.proofs.lemmas.List.{at_drop_more, drop_all, append-nil}
use Rattle.ogg_packets.specs.declared.pieces.Piece.{Piece}
use Rattle.ogg_packets.specs.Pieces.{bytes_of, joined}

pub piece_joined : (bytes : List ℕ) (pieces : List Piece) (i : ℕ) (d : Piece) (before total : List ℕ) → i < length pieces → before ++ joined bytes (drop i pieces) ≡ total
    → (before ++ take ((get_or pieces i d).place + (get_or pieces i d).len - (get_or pieces i d).place) (drop (get_or pieces i d).place bytes)) ++ joined bytes (drop (i + 1) pieces) ≡ total
unfolding joined
piece_joined bytes pieces i d before total lt h =
    let p = get_or pieces i d in
    let more : joined bytes (drop i pieces) ≡ bytes_of bytes p ++ joined bytes (drop (i + 1) pieces) = at_drop_more (joined bytes) pieces i d lt in
    let len : p.place + p.len - p.place ≡ p.len = omega arith in
    rw len (append_assoc before (bytes_of bytes p) (joined bytes (drop (i + 1) pieces)) ∙ ap (λ (x : List ℕ). before ++ x) (sym more) ∙ h)

pub pieces_joined : (bytes : List ℕ) (pieces : List Piece) (i : ℕ) (before total : List ℕ) → length pieces ≤ i → before ++ joined bytes (drop i pieces) ≡ total → before ≡ total
unfolding joined
pieces_joined bytes pieces i before total le h =
    let none : drop i pieces ≡ [] = drop_all i pieces le in
    let whole = rw none at h in
    sym (append-nil before) ∙ whole
