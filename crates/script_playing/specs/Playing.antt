-- What is played, and the cursors of a lane as they are kept.
use Rattle.std.specs.Prelude.{ℕ, ◌==◌, if◌then◌else◌, List, map, All, Option, Some, None, option_map, IfSome}
use Rattle.model_synthesis.specs.Tables.{ConstantTables, AreTables}
use Rattle.model_line.specs.declared.item.Item.{Item}
use Rattle.model_line.specs.Acceptance.{FilmLink}
use Rattle.model_line.specs.PacketRows.{rows_of}
use Rattle.model_line.specs.Index.{Indexed, Indexes}
use Rattle.model_cursor.specs.Positions.{Position, IsCursorIn, state_in}
use Rattle.model_film.specs.Links.{IsLink}
use Rattle.model_script.specs.declared.command.Command.{Command}
use Rattle.model_script.specs.declared.command.Command.TheVariants as commands
use Rattle.model_report.specs.Lanes.{LaneCursor}

-- constants as a right file has them, the links of an accepted film, and the index of its line
pub record CanBePlayed (tables : ConstantTables) (links : List FilmLink) (index : Indexed)
    : Type 0 where
  pub right : AreTables tables
  pub accepted : All IsLink links
  pub indexed : Indexes (map rows_of links) index

-- the state of a cursor that is closed, or open at a position of the line that items list
abbrev pub state_at : List Item → Option Position → LaneCursor
state_at items cursor = option_map (state_in items) cursor

abbrev pub IsAt : Indexed → Option Position → Type 0
IsAt index cursor = IfSome cursor (IsCursorIn index)

-- the old and the new cursor of a cross of two cursors
abbrev pub two_of : Command → Option (ℕ × ℕ)
two_of (commands.Cross c d) = if c == d then None else Some (c, d)
two_of _ = None
