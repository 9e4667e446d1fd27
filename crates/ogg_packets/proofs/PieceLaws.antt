-- Pieces, with one more at the end.
use Rattle.std.proofs.Common.{◌≡◌, ℕ, suc, ◌+◌, ◌-◌, ◌<◌, ◌≤◌, List, [], ◌∷◌, ◌++◌, length, take, drop, get_or, set, Option, Some, refl, sym, ap, subst, ◌∙◌, append_assoc, arith}
use Rattle.std.specs.Prelude.{All, slice_set}
use Rattle.std.proofs.lemmas.List.{append-nil, drop-drop, drop_all, set_split, set-get_or, take_at}
use Rattle.std.proofs.lemmas.Grind.{flat_map-append}
use Rattle.std.proofs.lemmas.List.Elements.{All-push, All-take}
use Rattle.std.proofs.lemmas.Option.{get_or_from_slice_get, slice_get_within}
use Rattle.std.proofs.Math.Seq.{take-add}
use Rattle.ogg_packets.specs.declared.pieces.Piece.{Piece}
use Rattle.ogg_packets.specs.Pieces.{bytes_of, joined, pieces_in, LiesBefore, IsGrown, GrowsLast, AddsPiece}

pub joined-append : (bytes : List ℕ) (front back : List Piece) → joined bytes (front ++ back) ≡ joined bytes front ++ joined bytes back
unfolding joined
joined-append bytes front back = flat_map-append (bytes_of bytes) front back

pub joined-one : (bytes : List ℕ) (piece : Piece) → joined bytes (piece ∷ []) ≡ bytes_of bytes piece
unfolding joined
joined-one bytes piece = append-nil (bytes_of bytes piece)

pub joined-push : (bytes : List ℕ) (front : List Piece) (piece : Piece) → joined bytes (front ++ piece ∷ []) ≡ joined bytes front ++ bytes_of bytes piece
joined-push bytes front piece = joined-append bytes front (piece ∷ []) ∙ ap (λ (x : List ℕ). joined bytes front ++ x) (joined-one bytes piece)

pub bytes_of-grown : (bytes : List ℕ) (last piece longer : Piece) → IsGrown last piece longer → bytes_of bytes longer ≡ bytes_of bytes last ++ bytes_of bytes piece
bytes_of-grown bytes last piece longer g =
    let rest : drop last.len (drop last.place bytes) ≡ drop piece.place bytes = drop-drop last.len last.place bytes ∙ ap (λ n. drop n bytes) (sym g.follows) in
    rw (g.place, g.len) (take-add last.len piece.len (drop last.place bytes) ∙ ap (λ (x : List ℕ). bytes_of bytes last ++ take piece.len x) rest)

-- a piece more, at the end
pub adds_push : (items : List Piece) (piece : Piece) → AddsPiece items piece (items ++ piece ∷ [])
adds_push items piece = record {
  bytes = λ bytes. joined-push bytes items piece;
  place = λ end before here. All-push (LiesBefore end) items piece before here;
}

All-front : (P : Piece → Type 0) (front : List Piece) (last : Piece) → All P (front ++ last ∷ []) → All P front
All-front P front last h =
    let taken : All P (take (length front) (front ++ last ∷ [])) = All-take P (length front) (front ++ last ∷ []) h in
    rw (take_at front (last ∷ []) (length front) refl) at taken

-- the last one grown
pub adds_grown : (front : List Piece) (last piece longer : Piece) → IsGrown last piece longer → AddsPiece (front ++ last ∷ []) piece (front ++ longer ∷ [])
adds_grown front last piece longer g = record {
  bytes = λ bytes. joined-push bytes front longer ∙ ap (λ (x : List ℕ). joined bytes front ++ x) (bytes_of-grown bytes last piece longer g)
      ∙ sym (append_assoc (joined bytes front) (bytes_of bytes last) (bytes_of bytes piece)) ∙ ap (λ (x : List ℕ). x ++ bytes_of bytes piece) (sym (joined-push bytes front last));
  place = λ end before here.
      let fits : longer.place + longer.len ≤ end = omega (arith, g.follows, g.place, g.len, here.before) in
      All-push (LiesBefore end) front longer (All-front (LiesBefore end) front last before) (record { before = fits });
}

pub adds_grown_last : (items : List Piece) (piece longer : Piece) (n : ℕ) → n ≡ length items - 1 → GrowsLast items piece longer → AddsPiece items piece (slice_set items n longer)
adds_grown_last items piece longer n e g =
    let lt : length items - 1 < length items = slice_get_within items (length items - 1) g.last g.at in
    let at : get_or items (length items - 1) longer ≡ g.last = get_or_from_slice_get items (length items - 1) g.last longer g.at in
    let none : drop (suc (length items - 1)) items ≡ [] = drop_all (suc (length items - 1)) items (omega arith) in
    let was : items ≡ take (length items - 1) items ++ g.last ∷ [] =
    rw (← at, ← none) (sym (set-get_or items (length items - 1) longer) ∙ set_split items (length items - 1) (get_or items (length items - 1) longer) lt) in
    let now : set items (length items - 1) longer ≡ take (length items - 1) items ++ longer ∷ [] = set_split items (length items - 1) longer lt ∙ ap (λ (x : List Piece). take (length items - 1) items ++ longer ∷ x) none in
    let grown = adds_grown (take (length items - 1) items) g.last piece longer g.grown in
    let after : AddsPiece items piece (slice_set items (length items - 1) longer) =
    subst (λ (x : List Piece). AddsPiece x piece (set items (length items - 1) longer)) (sym was) (subst (λ (x : List Piece). AddsPiece (take (length items - 1) items ++ g.last ∷ []) piece x) (sym now) grown) in
    rw e after

-- the same of a piece that is kept in place
pub adds_to_only : (items others : List Piece) (only : Option Piece) (last piece longer : Piece) → pieces_in only others ≡ items → only ≡ Some last → IsGrown last piece longer
    → AddsPiece items piece (longer ∷ [])
adds_to_only items others only last piece longer view is g =
    let alone : last ∷ [] ≡ items = rw is at view in
    rw (← alone) (adds_grown [] last piece longer g)

pub adds_after_only : (items others cleared mid now : List Piece) (only : Option Piece) (last piece : Piece) → pieces_in only others ≡ items → only ≡ Some last
    → cleared ≡ [] → mid ≡ cleared ++ last ∷ [] → now ≡ mid ++ piece ∷ [] → AddsPiece items piece now
adds_after_only items others cleared mid now only last piece view is cleared-is mid-is now-is =
    let alone : last ∷ [] ≡ items = rw is at view in
    let mid-items : mid ≡ items = mid-is ∙ ap (λ (x : List Piece). x ++ last ∷ []) cleared-is ∙ alone in
    rw (now-is, mid-items) (adds_push items piece)
