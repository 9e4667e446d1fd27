-- What is kept of a link stands for.
use Rattle.std.specs.Prelude.{◌≡◌, ℕ, ◌+◌, ◌≤◌, Bool, true, false, List, [], ◌∷◌, length, map, sum_by, All, is_ok}
use Rattle.std.specs.Option.{option_map_or}
use Rattle.std.specs.List.{flat_map}
use Rattle.ogg_packets.specs.declared.entry.Entry.{Entry}
use Rattle.ogg_packets.specs.declared.entry.Entry.TheVariants.{Packet, Lost}
use Rattle.ogg_packets.specs.declared.pieces.Piece.{Piece}
use Rattle.ogg_packets.specs.Pieces.{LiesBefore}
use Rattle.ogg_packets.specs.Entries.{items_of}
use Rattle.model_ogg.specs.Entries.{StreamItem}
use Rattle.model_setup.specs.HeaderPackets.{IsPlayable}
use Rattle.model_setup.specs.SetupPacket.{setup_of, IsSetup}
use Rattle.model_line.specs.declared.film.TheConstants.{MOST_CHANNELS}
use Rattle.model_line.specs.LinkTests.{Headers, headers_of}
use Rattle.model_line.specs.Acceptance.{FilmLink, link_with}
use Rattle.model_line.specs.PacketRows.{rows_of}
use Rattle.film_blocks.specs.declared.held.HeldLink.{HeldLink}
use Rattle.film_blocks.specs.declared.places.TheConstants.{HEADER_COUNT}
use Rattle.film_blocks.specs.Places.{block_places}

-- the link of a film of these bytes
abbrev pub link_in : List ℕ → HeldLink → FilmLink
link_in bytes held = link_with held.counts (items_of bytes held.entries.items)

abbrev pub links_in : List ℕ → List HeldLink → List FilmLink
links_in bytes held = map (link_in bytes) held

-- the pieces of an entry, and of entries
abbrev pub pieces_of : Entry → List Piece
pieces_of (Packet pieces mark) = pieces
pieces_of Lost = []

abbrev pub all_pieces : List Entry → List Piece
all_pieces entries = flat_map pieces_of entries

-- the third header of these entries is a setup of so many channels
abbrev pub has_setup : ℕ → List StreamItem → Bool
has_setup channels items =
    option_map_or (λ (h : Headers). is_ok (setup_of channels h.setup)) (headers_of items) false

-- a link is held right: its pieces lie within the bytes, its blocks are found at their places, and
-- its setup can be read again
pub record IsHeld (bytes : List ℕ) (held : HeldLink) : Type 0 where
  pub lies : All (LiesBefore (length bytes)) (all_pieces held.entries.items)
  pub channels : held.channels ≡ (link_in bytes held).ident.channels
  pub some : 1 ≤ held.channels
  pub few : held.channels ≤ MOST_CHANNELS
  pub short : held.sizes.short ≡ (link_in bytes held).ident.short
  pub long : held.sizes.long ≡ (link_in bytes held).ident.long
  pub blocks : held.blocks.items ≡ block_places HEADER_COUNT (rows_of (link_in bytes held)).rows
  pub setup : has_setup held.channels (items_of bytes held.entries.items) ≡ true
  pub playable : ∥ IsPlayable (link_in bytes held).ident ∥₁
  pub whole : ∥ IsSetup held.channels (link_in bytes held).setup ∥₁

-- ---- how many blocks are held

-- of all links
abbrev pub blocks_in : List HeldLink → ℕ
blocks_in held = sum_by (λ (h : HeldLink). length h.blocks.items) held

-- up to and with each link, where so many come before them all
unfoldable pub held_ends : ℕ → List HeldLink → List ℕ
held_ends n [] = []
held_ends n (h ∷ held) =
    (n + length h.blocks.items) ∷ held_ends (n + length h.blocks.items) held
