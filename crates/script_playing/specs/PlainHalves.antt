-- The blocks of a film as a source of halves that keeps none of them.
use Rattle.std.specs.Prelude.{ℕ, List}
use Rattle.model_synthesis.specs.Tables.{ConstantTables}
use Rattle.model_line.specs.Acceptance.{FilmLink}

-- the constants by which blocks are made, the links of the film, and how many halves were fetched
pub record PlainHalves : Type 0 where
  pub tables : ConstantTables
  pub links : List FilmLink
  pub fetches : ℕ
