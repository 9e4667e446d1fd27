-- What is written of a line: the samples of its frames.
use Rattle.std.specs.Prelude.{ℕ, List, []}
use Rattle.std.specs.List.{flat_map}
use Rattle.model_synthesis.specs.Tables.{ConstantTables}
use Rattle.model_line.specs.Acceptance.{FilmLink}
use Rattle.model_line.specs.Decode.{LineItem, frame, gap}
use Rattle.model_line.specs.Blocks.{Frame}
use Rattle.model_line.specs.FrameBytes.{frame_bytes}
use Rattle.model_film.specs.FilmLines.{film_line}

-- a gap gives nothing
abbrev pub item_bytes : LineItem Frame → List ℕ
item_bytes (frame link values) = frame_bytes values
item_bytes (gap link kind) = []

-- the bytes of a line, frame after frame
unfoldable pub line_bytes : List (LineItem Frame) → List ℕ
line_bytes items = flat_map item_bytes items

-- what is written of a film under these constants
abbrev pub dump_of : ConstantTables → List FilmLink → List ℕ
dump_of tables links = line_bytes (film_line tables links)
