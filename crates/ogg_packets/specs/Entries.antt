-- What entries of pieces stand for in the bytes of a file.
use Rattle.std.specs.Prelude.{ℕ, nat_le, if◌then◌else◌, Bool, true, false, List, [], ◌∷◌, length, map, take, All, Option, Some, None, option_map, Result, Ok, Err}
use Rattle.model_ogg.specs.declared.page.Mark.{Mark}
use Rattle.model_ogg.specs.Entries.{StreamItem, packet, lost}
use Rattle.ogg_packets.specs.declared.entry.Entry.{Entry}
use Rattle.ogg_packets.specs.declared.entry.Entry.TheVariants.{Packet, Lost}
use Rattle.ogg_packets.specs.declared.fault.EntryFault.{EntryFault}
use Rattle.ogg_packets.specs.declared.fault.EntryFault.TheVariants.{TooMany}
use Rattle.ogg_packets.specs.declared.pieces.Piece.{Piece}
use Rattle.ogg_packets.specs.Pieces.{joined, LiesBefore}

-- an entry: a packet's bytes, which are those of its pieces, with its mark, or a loss
abbrev pub item_of : List ℕ → Entry → StreamItem
item_of bytes (Packet pieces mark) = packet (joined bytes pieces) mark
item_of bytes Lost = lost

-- the entries of a list
abbrev pub items_of : List ℕ → List Entry → List StreamItem
items_of bytes entries = map (item_of bytes) entries

-- ---- the parts of an entry

abbrev pub is_packet_entry : Entry → Bool
is_packet_entry (Packet pieces mark) = true
is_packet_entry Lost = false

abbrev pub mark_in : Entry → Option Mark
mark_in (Packet pieces mark) = mark
mark_in Lost = None

-- the bytes of a packet
abbrev pub packet_in : List ℕ → Entry → Option (List ℕ)
packet_in bytes (Packet pieces mark) = Some (joined bytes pieces)
packet_in bytes Lost = None

-- the front of a packet: its first two bytes, as far as it has them, which its head goes by
-- (Vorbis I, section 4.3.1)
abbrev pub front_in : List ℕ → Entry → Option (List ℕ)
front_in bytes entry = option_map (take 2) (packet_in bytes entry)

-- the packet of one piece
abbrev pub whole : ℕ → ℕ → Option Mark → Entry
whole place len mark = Packet (record { place = place; len = len } ∷ []) mark

-- ---- the open packet, and where entries lie

-- the bytes of the open packet
abbrev pub pending_of : List ℕ → Option (List Piece) → Option (List ℕ)
pending_of bytes pending = option_map (joined bytes) pending

-- all pieces of an entry lie before an end
abbrev pub EntryLiesBefore : ℕ → Entry → Type 0
EntryLiesBefore end (Packet pieces mark) = All (LiesBefore end) pieces
EntryLiesBefore end Lost = Unit {0}

-- all pieces of the open packet do
abbrev pub PendingLiesBefore : ℕ → Option (List Piece) → Type 0
PendingLiesBefore end None = Unit {0}
PendingLiesBefore end (Some pieces) = All (LiesBefore end) pieces

-- the entries and the open packet lie before an end
pub record LieBefore (end : ℕ) (found : List Entry) (left : Option (List Piece)) : Type 0 where
  pub entries : All (EntryLiesBefore end) found
  pub pending : PendingLiesBefore end left

-- entries, where they are at most the limit
abbrev pub within_limit : ℕ → List StreamItem → Result (List StreamItem) EntryFault
within_limit limit items = if nat_le (length items) limit then Ok items else Err TooMany
