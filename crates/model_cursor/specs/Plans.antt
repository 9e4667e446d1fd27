-- Plans: which halves of blocks a cursor needs, by the items of an index.
use Rattle.std.specs.Prelude.{ℕ, ◌+◌, ◌-◌, ◌<◌, min, max, Bool, nat_lt, if◌then◌else◌, List, [], ◌∷◌, ◌++◌, length, map}
use Rattle.std.specs.List.{flat_map}
use Rattle.model_synthesis.specs.Tables.{ConstantTables}
use Rattle.model_line.specs.declared.item.Half.TheVariants as halves
use Rattle.model_line.specs.declared.item.Span.{Span}
use Rattle.model_line.specs.declared.item.Item.{Item}
use Rattle.model_line.specs.declared.item.Item.TheVariants as variants
use Rattle.model_line.specs.declared.item.LinkFacts.{LinkFacts}
use Rattle.model_line.specs.Decode.{LineItem, frame_count}
use Rattle.model_line.specs.Origins.{listed}
use Rattle.model_line.specs.Index.{Indexed}
use Rattle.model_cursor.specs.declared.need.Need.{Need}
use Rattle.model_cursor.specs.declared.need.Task.{Task}
use Rattle.model_cursor.specs.declared.need.Task.TheVariants.{Read, Lap}
use Rattle.model_cursor.specs.declared.reply.Reply.{Reply}
use Rattle.model_cursor.specs.declared.reply.Reply.TheVariants as replies
use Rattle.model_cursor.specs.declared.reply.Sought.{Sought}
use Rattle.model_cursor.specs.declared.reply.Sought.TheVariants as answers
use Rattle.model_line.specs.Blocks.{Frame}
use Rattle.model_cursor.specs.Runs.{run_at}
use Rattle.model_cursor.specs.Cursors.{CursorState, frames_before, read, place_after}
use Rattle.model_cursor.specs.Splices.{Splicing, splice_len, lap}

-- what the frames of a span are made of: the right half of its block, and the left half of the next
abbrev pub span_needs : Span → List Need
span_needs s =
    record { block = s.block; half = halves.Right }
    ∷ record { block = s.block + 1; half = halves.Left }
    ∷ []

-- some frame of the span is among those of the line from one number up to but not including another
abbrev pub meets : ℕ → ℕ → Span → Bool
meets from to s = nat_lt (max from s.start) (min to (s.start + (s.to - s.from)))

abbrev pub item_needs : ℕ → ℕ → Item → List Need
item_needs from to (variants.Span s) = if meets from to s then span_needs s else []
item_needs from to (variants.Gap link kind) = []

-- what the frames from one number to another need: what each span needs that they meet, in order
unfoldable pub needs_between : List Item → ℕ → ℕ → List Need
needs_between items from to = flat_map (item_needs from to) items

-- the plan of a read of at most so many frames at a place of the line that items list
abbrev pub read_needs : List Item → ℕ → ℕ → List Need
read_needs items place frames =
    let line = listed items in
    let from = frames_before line place in
    needs_between items from (from + min frames (length (run_at line place)))

-- how long the short blocks of each link are
abbrev pub shorts_of : List LinkFacts → List ℕ
shorts_of links = map (λ (facts : LinkFacts). facts.short) links

-- what splices rest on under an index and these tables of constants
abbrev pub splicing_of : ConstantTables → Indexed → Splicing
splicing_of tables index = record { tables = tables; shorts = shorts_of index.links }

-- The plan of a splice from one place to another: that of the frames of the old side, and then that
-- of the new one's. Where the new side has no frame there is nothing to splice.
unfoldable pub splice_needs : Indexed → ℕ → ℕ → List Need
splice_needs index old new =
    let line = listed index.items in
    let frames = splice_len (shorts_of index.links) line old new in
    if nat_lt 0 (length (run_at line new))
    then read_needs index.items old frames ++ read_needs index.items new frames
    else []

-- the plan of a lap to so many frames from a place on, which is none where the line has fewer
unfoldable pub lap_needs : Indexed → ℕ → ℕ → List Need
lap_needs index old frames =
    let line = listed index.items in
    if nat_lt (frame_count line) frames then []
    else splice_needs index old (place_after frames line)

-- a task that asks for something
abbrev pub IsTask : Task → Type 0
IsTask (Read frames) = 0 < frames
IsTask (Lap frames) = Unit {0}

-- the plan of a task at a place of the line that an index lists
abbrev pub needs : Indexed → ℕ → Task → List Need
needs index place (Read frames) = read_needs index.items place frames
needs index place (Lap frames) = lap_needs index place frames

-- what a seek or a lap answers, as a reply
abbrev pub sought_reply : Sought → Reply
sought_reply (answers.At place) = replies.At place
sought_reply (answers.Invalid total) = replies.Invalid total

-- what a task answers, and the cursor then
abbrev pub task_answer : Splicing → List (LineItem Frame) → Task → CursorState
    → Reply × CursorState
task_answer by line (Read frames) s = read line frames s
task_answer by line (Lap frames) s =
    let sought = lap by line frames s in (sought_reply sought.0, sought.1)
