-- The blocks of a film, each in its halves, with the key by which it is known: its number.
use Rattle.std.specs.Prelude.{ℕ, ◌*◌, ℤ, List, [], slice_get}
use Rattle.std.specs.Option.{option_map_or}
use Rattle.model_setup.specs.HeaderPackets.{IsBlockSize}
use Rattle.model_synthesis.specs.Tables.{ConstantTables}
use Rattle.model_line.specs.declared.item.Half.{Half}
use Rattle.model_line.specs.declared.item.Half.TheVariants.{Left, Right}
use Rattle.model_line.specs.Acceptance.{FilmLink}
use Rattle.model_line.specs.Blocks.{left_half, right_half}
use Rattle.model_line.specs.PacketRows.{BlockPacket, link_block_packets, block_packets}
use Rattle.model_block.specs.FilmBlocks.{block_in_link, film_block}
use Rattle.block_decoding.specs.Shapes.{IsHalf}

-- a block in its halves, each with the values of all channels
pub record KeyedBlock : Type 0 where
  pub key : ℕ
  pub left : List (List ℤ)
  pub right : List (List ℤ)

abbrev pub half_of : Half → KeyedBlock → List (List ℤ)
half_of Left block = block.left
half_of Right block = block.right

-- block k of a film
unfoldable pub keyed_block : ConstantTables → List FilmLink → ℕ → KeyedBlock
keyed_block tables links k = record {
  key = k;
  left = left_half (film_block tables links k);
  right = right_half (film_block tables links k);
}

-- the link of block k
unfoldable pub link_of_block : List FilmLink → ℕ → ℕ
link_of_block links k =
    option_map_or (λ (packet : BlockPacket). packet.link) (slice_get (block_packets links) k) 0

-- how many channels the link of block k has
abbrev pub channels_of_block : List FilmLink → ℕ → ℕ
channels_of_block links k =
    option_map_or (λ (link : FilmLink). link.ident.channels)
    (slice_get links (link_of_block links k)) 0

-- both halves of a block have so many channels, each with as many values, which are within their
-- limit, as half a block has
pub record HasHalves (channels : ℕ) (block : KeyedBlock) : Type 0 where
  pub size : ℕ
  pub is_block_size : IsBlockSize (2 * size)
  pub left : IsHalf channels size block.left
  pub right : IsHalf channels size block.right

-- block j of the link of this number
unfoldable pub link_block : ConstantTables → ℕ → FilmLink → ℕ → List (List ℤ)
link_block tables number link j =
    option_map_or (λ (packet : BlockPacket). block_in_link tables link packet.bytes)
    (slice_get (link_block_packets number link) j) []
