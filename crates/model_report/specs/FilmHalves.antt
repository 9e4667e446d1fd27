-- The halves of a film's blocks, as cursors ask for them.
use Rattle.std.specs.Prelude.{◌≡◌, List, length, map, All}
use Rattle.model_synthesis.specs.Tables.{ConstantTables, AreTables}
use Rattle.model_line.specs.Acceptance.{FilmLink}
use Rattle.model_line.specs.PacketRows.{rows_of, block_packets}
use Rattle.model_line.specs.Blocks.{half_in}
use Rattle.model_line.specs.Index.{Indexed, Indexes}
use Rattle.model_cursor.specs.Sources.{Source, Suits, line_from}
use Rattle.model_block.specs.FilmBlocks.{film_block}
use Rattle.model_film.specs.FilmLines.{film_line}
use Rattle.model_film.specs.Links.{IsLink}

-- each half of the blocks of a film of these links
abbrev pub film_halves : ConstantTables → List FilmLink → Source
film_halves tables links need = half_in need.half (film_block tables links need.block)

-- The halves of a film's blocks are such as cursors in its index ask for, and the line that the
-- index gives with them is the film's.
pub record ServesCursors (tables : ConstantTables) (links : List FilmLink) (index : Indexed)
    : Type 0 where
  pub suits : Suits index (film_halves tables links)
  pub line : line_from (film_halves tables links) index.items ≡ film_line tables links
  pub blocks : index.blocks ≡ length (block_packets links)

-- So it is under constants as every accepted file has them.
abbrev pub HalvesServeCursors : Type 0
HalvesServeCursors = (tables : ConstantTables) (links : List FilmLink) (index : Indexed)
    → AreTables tables → All IsLink links → Indexes (map rows_of links) index
    → ServesCursors tables links index
