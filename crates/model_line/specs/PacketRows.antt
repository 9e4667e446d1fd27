-- The rows of a link, of which its line is made: what each of its entries is, by the head of its
-- packet under the link's setup (Vorbis I, section 4.3.1); and the blocks of a film by number.
use Rattle.std.specs.Prelude.{ℕ, ◌+◌, Bool, false, List, [], ◌∷◌, ◌++◌, map, None, slice_index_or}
use Rattle.std.specs.List.{flat_map}
use Rattle.model_ogg.specs.Entries.{StreamItem, packet, lost}
use Rattle.model_setup.specs.declared.setup.PacketHead.{PacketHead}
use Rattle.model_setup.specs.declared.setup.PacketHead.TheVariants as heads
use Rattle.model_setup.specs.declared.head.IdentFields.{IdentFields}
use Rattle.model_setup.specs.SetupPacket.{SetupFields}
use Rattle.model_setup.specs.AudioHead.{long_flags_of, head_of}
use Rattle.model_line.specs.declared.row.RowKind.{RowKind}
use Rattle.model_line.specs.declared.row.RowKind.TheVariants as kinds
use Rattle.model_line.specs.declared.row.Row.{Row}
use Rattle.model_line.specs.declared.row.LinkRows.{LinkRows}
use Rattle.model_line.specs.Origins.{entries_of}
use Rattle.model_line.specs.Decode.{LinkEntry}
use Rattle.model_line.specs.Acceptance.{FilmLink}

-- ---- rows

-- what a packet is for the line, by its head, where the modes have these block flags
abbrev pub kind_by_head : List Bool → PacketHead → RowKind
kind_by_head long_flags heads.Skip = kinds.Skip
kind_by_head long_flags heads.Bad = kinds.Bad
kind_by_head long_flags (heads.Block mode prev next) =
    kinds.Block (slice_index_or long_flags mode false)

-- the block flag of each mode of a setup: whether its blocks are long
abbrev pub block_flags : SetupFields → List Bool
block_flags setup = long_flags_of setup.modes

-- the row of an entry
abbrev pub row_of : List Bool → StreamItem → Row
row_of long_flags (packet bytes mark) =
    record { kind = kind_by_head long_flags (head_of long_flags bytes); mark = mark }
row_of long_flags lost = record { kind = kinds.Lost; mark = None }

-- the rows of a link with this identification and this setup, which has these entries after its
-- headers
unfoldable pub rows_by : IdentFields → SetupFields → List StreamItem → LinkRows
rows_by ident setup entries = record {
  channels = ident.channels;
  rate = ident.rate;
  short = ident.short;
  long = ident.long;
  rows = map (row_of (block_flags setup)) entries;
}

-- the rows of a link
abbrev pub rows_of : FilmLink → LinkRows
rows_of link = rows_by link.ident link.setup link.entries

-- the entries of each link, each block known by its size
abbrev pub sized_links : List FilmLink → List (List (LinkEntry ℕ))
sized_links links = map entries_of (map rows_of links)

-- ---- the blocks of a film, by their numbers

-- a packet that decodes to a block, and the number of its link
pub record BlockPacket : Type 0 where
  pub link : ℕ
  pub bytes : List ℕ

abbrev pub block_by_head : ℕ → List ℕ → PacketHead → List BlockPacket
block_by_head number bytes heads.Skip = []
block_by_head number bytes heads.Bad = []
block_by_head number bytes (heads.Block mode prev next) =
    record { link = number; bytes = bytes } ∷ []

-- what an entry of the link of this number decodes to: a block, or none
abbrev pub block_packet : ℕ → List Bool → StreamItem → List BlockPacket
block_packet number long_flags (packet bytes mark) =
    block_by_head number bytes (head_of long_flags bytes)
block_packet number long_flags lost = []

-- those of a link
unfoldable pub link_block_packets : ℕ → FilmLink → List BlockPacket
link_block_packets number link =
    flat_map (block_packet number (block_flags link.setup)) link.entries

-- those of the links from one of this number on
unfoldable pub block_packets_from : ℕ → List FilmLink → List BlockPacket
block_packets_from number [] = []
block_packets_from number (link ∷ links) =
    link_block_packets number link ++ block_packets_from (number + 1) links

-- The packets of all blocks of a film. Block k is the one at place k: blocks are numbered over all
-- links in order.
abbrev pub block_packets : List FilmLink → List BlockPacket
block_packets links = block_packets_from 0 links
