-- What is kept of a film from span to span.
use Rattle.std.specs.Prelude.{◌≡◌, List, Some, slice_get, option_map}
use Rattle.model_synthesis.specs.Tables.{ConstantTables}
use Rattle.model_line.specs.Acceptance.{FilmLink}
use Rattle.film_blocks.specs.KeyedBlocks.{keyed_block}
use Rattle.film_dump.specs.declared.kept.Kept.{Kept}

-- a block of a film, and the setup of the link of this number
pub record IsKept (tables : ConstantTables) (links : List FilmLink) (kept : Kept) : Type 0 where
  pub setup : option_map (λ (l : FilmLink). l.setup) (slice_get links kept.link) ≡ Some kept.setup
  pub block : kept.block ≡ keyed_block tables links kept.block.key
