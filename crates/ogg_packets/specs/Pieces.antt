-- The pieces in which a packet lies.
use Rattle.std.specs.Prelude.{◌≡◌, ℕ, ◌+◌, ◌-◌, ◌≤◌, length, slice_get, List, [], ◌∷◌, ◌++◌, take, drop, All, Option, Some, None}
use Rattle.std.specs.List.{flat_map}
use Rattle.ogg_packets.specs.declared.pieces.Piece.{Piece}

-- the bytes of one piece
abbrev pub bytes_of : List ℕ → Piece → List ℕ
bytes_of bytes p = take p.len (drop p.place bytes)

-- the bytes of a packet that lies in pieces
unfoldable pub joined : List ℕ → List Piece → List ℕ
joined bytes pieces = flat_map (bytes_of bytes) pieces

-- a piece lies before an end
pub record LiesBefore (end : ℕ) (p : Piece) : Type 0 where
  pub before : p.place + p.len ≤ end

-- the piece that is kept in place, or else the others
abbrev pub pieces_in : Option Piece → List Piece → List Piece
pieces_in (Some only) items = only ∷ []
pieces_in None items = items

-- one piece has the bytes of two, the second of which follows the first
pub record IsGrown (last piece longer : Piece) : Type 0 where
  pub follows : piece.place ≡ last.place + last.len
  pub place : longer.place ≡ last.place
  pub len : longer.len ≡ last.len + piece.len

-- the last of these pieces grows so
pub record GrowsLast (items : List Piece) (piece longer : Piece) : Type 0 where
  pub last : Piece
  pub at : slice_get items (length items - 1) ≡ Some last
  pub grown : IsGrown last piece longer

-- these pieces are those and one more, at the end
pub record AddsPiece (old : List Piece) (piece : Piece) (new : List Piece) : Type 0 where
  pub bytes : (bytes : List ℕ) → joined bytes new ≡ joined bytes old ++ bytes_of bytes piece
  pub place : (end : ℕ) → All (LiesBefore end) old → LiesBefore end piece → All (LiesBefore end) new
