-- What an entry that is kept says of a packet of one piece.
use Rattle.std.proofs.Common.{◌≡◌, ℕ, ◌+◌, ◌≤◌, List, [], ◌∷◌, Option, Some, sym, ap, refl, take}
use Rattle.std.specs.Prelude.{All, option_map}
use Rattle.std.proofs.lemmas.List.Elements.{All-head}
use Rattle.model_ogg.specs.declared.page.Mark.{Mark}
use Rattle.ogg_packets.specs.declared.pieces.Piece.{Piece}
use Rattle.ogg_packets.specs.declared.entry.Entry.{Entry}
use Rattle.ogg_packets.specs.Pieces.{bytes_of, LiesBefore}
use Rattle.ogg_packets.specs.Entries.{front_in, whole, packet_in, EntryLiesBefore}
use Rattle.ogg_packets.proofs.PieceLaws.{joined-one}

pub whole_lies : (end place len : ℕ) (mark : Option Mark) (e : Entry) → whole place len mark ≡ e → EntryLiesBefore end e → place + len ≤ end
whole_lies end place len mark e is h =
    let piece : Piece = record { place = place; len = len } in
    let all : All (LiesBefore end) (piece ∷ []) = rw (← is) at h in
    (All-head (LiesBefore end) piece [] all).before

pub whole_bytes : (bytes : List ℕ) (place len : ℕ) (mark : Option Mark) (e : Entry) (found : List ℕ) → whole place len mark ≡ e → found ≡ bytes_of bytes (record { place = place; len = len }) → Some found ≡ packet_in bytes e
whole_bytes bytes place len mark e found is same = rw (← is, same) (ap Some (sym (joined-one bytes (record { place = place; len = len }))))

pub whole_front : (bytes : List ℕ) (place len : ℕ) (mark : Option Mark) (e : Entry) (front : List ℕ) → whole place len mark ≡ e → front ≡ take 2 (bytes_of bytes (record { place = place; len = len })) → Some front ≡ front_in bytes e
whole_front bytes place len mark e front is same =
    rw same (ap (λ (packet : Option (List ℕ)). option_map (take 2) packet) (whole_bytes bytes place len mark e (bytes_of bytes (record { place = place; len = len })) is refl))
