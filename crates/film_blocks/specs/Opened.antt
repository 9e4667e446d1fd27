-- A film that was opened, as the layers above see it.
use Rattle.std.specs.Prelude.{List}
use Rattle.model_line.specs.Acceptance.{FilmLink}
use Rattle.model_line.specs.Index.{Indexed}

-- its links, and the index of its line
pub record Opened : Type 0 where
  pub links : List FilmLink
  pub index : Indexed
