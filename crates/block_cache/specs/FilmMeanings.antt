-- What the makers of a film's blocks mean, and the works that decode the blocks of any film.
use Rattle.std.specs.Prelude.{◌≡◌, ℕ, ◌<◌, ℤ, List, length, map, All, slice_get}
use Rattle.std.specs.Option.{option_map_or}
use Rattle.model_setup.specs.SetupPacket.{SetupFields}
use Rattle.model_synthesis.specs.Tables.{ConstantTables, AreTables}
use Rattle.model_synthesis.specs.Transform.{IsBlockValue}
use Rattle.model_line.specs.Acceptance.{FilmLink, no_setup}
use Rattle.model_line.specs.PacketRows.{block_packets}
use Rattle.model_film.specs.Links.{IsLink}
use Rattle.film_blocks.specs.KeyedBlocks.{KeyedBlock, keyed_block, link_of_block}
use Rattle.block_cache.specs.Meanings.{Meaning}

-- ---- the blocks of a film

abbrev pub setup_of_link : List FilmLink → ℕ → SetupFields
setup_of_link links l = option_map_or (λ (link : FilmLink). link.setup) (slice_get links l) no_setup

-- the links and setups of a film, with these blocks
abbrev pub with_blocks : List FilmLink → (ℕ → KeyedBlock) → Meaning
with_blocks links block = record {
  blocks = length (block_packets links);
  links = length links;
  link = link_of_block links;
  setup = setup_of_link links;
  block = block;
}

-- those of a film, decoded by these constants
abbrev pub film_meaning : ConstantTables → List FilmLink → Meaning
film_meaning tables links = with_blocks links (keyed_block tables links)

-- ---- works

-- the blocks of each reel, by its constants and its links
abbrev pub Values : Type 0
Values = ConstantTables → List FilmLink → ℕ → KeyedBlock

-- a half with as many channels as another, and as many values in each, which are within the limit
-- of a block's values
pub record IsLike (half other : List (List ℤ)) : Type 0 where
  pub sizes : map length half ≡ map length other
  pub small : All (All IsBlockValue) half

-- a block with the key, the channels and the size of another
pub record IsBlockLike (block other : KeyedBlock) : Type 0 where
  pub key : block.key ≡ other.key
  pub left : IsLike block.left other.left
  pub right : IsLike block.right other.right

-- Each block of a reel has the key, the channels and the size of the film's, under constants as
-- every accepted file has them.
abbrev pub AreLikeBlocks : Values → Type 0
AreLikeBlocks values = (tables : ConstantTables) (links : List FilmLink) (k : ℕ) → AreTables tables
    → All IsLink links → k < length (block_packets links)
    → IsBlockLike (values tables links k) (keyed_block tables links k)

-- ---- the maker of a film's blocks

-- the constants by which blocks are decoded, the links of the film, and how many blocks were made
pub record FilmMaker : Type 0 where
  pub tables : ConstantTables
  pub links : List FilmLink
  pub made : ℕ
