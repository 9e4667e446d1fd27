-- What cursors in a film's index answer is what its line answers.
use Rattle.std.proofs.Common.{◌≡◌, ℕ, ◌+◌, List, [], ◌∷◌, map, Option, Some, None, option_map, refl, ap, sym, ◌∙◌}
use Rattle.std.specs.List.{slice_get}
use Rattle.std.specs.Option.{option_map_or}
use Rattle.std.proofs.lemmas.Option.{slice_get-map}
use Rattle.model_synthesis.specs.Tables.{ConstantTables}
use Rattle.model_line.specs.declared.item.Half.{Half}
use Rattle.model_line.specs.declared.item.Half.TheVariants.{Left, Right}
use Rattle.model_line.specs.declared.item.LinkFacts.{LinkFacts}
use Rattle.model_line.specs.Acceptance.{FilmLink}
use Rattle.model_line.specs.PacketRows.{rows_by, rows_of}
use Rattle.model_line.proofs.FactsAt.{slice_get-facts}
use Rattle.model_line.specs.Decode.{LineItem}
use Rattle.model_line.specs.Origins.{listed, frame_by}
use Rattle.model_line.specs.Index.{Indexed, facts_of, facts_from}
use Rattle.model_line.specs.Blocks.{Frame}
use Rattle.model_cursor.specs.Cursors.{CursorState, tell, seek, read}
use Rattle.model_cursor.specs.declared.reply.Reply.{Reply}
use Rattle.model_cursor.specs.declared.reply.Reply.TheVariants as replies
use Rattle.model_cursor.specs.declared.reply.Sought.{Sought}
use Rattle.model_cursor.specs.Splices.{Splicing, lap, crossed}
use Rattle.model_cursor.specs.Plans.{shorts_of, splicing_of, sought_reply}
use Rattle.model_cursor.specs.Positions.{Position, state_in}
use Rattle.model_cursor.specs.Sources.{Suits, line_from, channels_in}
use Rattle.model_cursor.proofs.Shapes.{seeks_by_origins}
use Rattle.model_line.specs.Blocks.{half_in}
use Rattle.model_report.specs.FilmHalves.{film_halves, ServesCursors}
use Rattle.model_film.specs.FilmLines.{film_line}
use Rattle.model_film.specs.Laws.{frame_at}
use Rattle.model_film.proofs.OriginLines.{line_by_origins}
use Rattle.model_report.proofs.CursorHalves.{halves_serve_cursors}
use Rattle.model_block.specs.FilmBlocks.{film_block}
use Rattle.film_blocks.specs.KeyedBlocks.{half_of, keyed_block}
use Rattle.model_script.specs.declared.command.Command.TheVariants.{Seek, Tell}
use Rattle.model_script.specs.declared.command.Answer.{Answer}
use Rattle.model_script.specs.declared.command.Answer.TheVariants as answers
use Rattle.model_report.specs.Lanes.{LaneCursor, cursor_answer}
use Rattle.model_report.specs.Reports.{channels_of, film_channels, film_shorts, film_splicing, heard_of}
use Rattle.script_playing.specs.Playing.{CanBePlayed, state_at}

-- a half of a block that was decoded is that of the film
pub half_same : (tables : ConstantTables) (links : List FilmLink) (half : Half) (k : ℕ) → half_of half (keyed_block tables links k) ≡ half_in half (film_block tables links k)
unfolding keyed_block
half_same tables links Left k = refl
half_same tables links Right k = refl

-- the short blocks of links by their facts
shorts_same : (number : ℕ) (links : List FilmLink) → shorts_of (facts_from number (map rows_of links)) ≡ film_shorts links
unfolding facts_from facts_of rows_by
shorts_same number [] = refl
shorts_same number (link ∷ links) = ap (λ (shorts : List ℕ). link.ident.short ∷ shorts) (shorts_same (number + 1) links)

module _ (tables : ConstantTables) (links : List FilmLink) (index : Indexed) (can : CanBePlayed tables links index) where
  by_origins : film_line tables links ≡ map (frame_by (frame_at tables links)) (listed index.items)
  by_origins = line_by_origins tables links index.items can.accepted can.indexed.origins

  pub tell_same : (s : CursorState) → tell (film_line tables links) s ≡ tell (listed index.items) s
  tell_same s = ap (λ (line : List (LineItem Frame)). tell line s) by_origins ∙ (seeks_by_origins (frame_at tables links) (listed index.items) s).0

  pub seek_same : (s : CursorState) (place : ℕ) → seek (film_line tables links) place s ≡ seek (listed index.items) place s
  seek_same s place = ap (λ (line : List (LineItem Frame)). seek line place s) by_origins ∙ (seeks_by_origins (frame_at tables links) (listed index.items) s).1 place

  pub serves : ServesCursors tables links index
  serves = halves_serve_cursors tables links index can.right can.accepted can.indexed

  -- what splices rest on by the index is what they rest on by the film
  splicing_same : film_splicing tables links ≡ splicing_of tables index
  splicing_same = ap (λ (shorts : List ℕ). let by : Splicing = record { tables = tables; shorts = shorts } in by) (sym (ap (λ (facts : List LinkFacts). shorts_of facts) can.indexed.facts ∙ shorts_same 0 links))

module _ (tables : ConstantTables) (links : List FilmLink) (index : Indexed) (can : CanBePlayed tables links index) where
  -- the line by the halves of the film's blocks
  line_same : film_line tables links ≡ line_from (film_halves tables links) index.items
  line_same = sym (serves tables links index can).line

  -- what cursors answer over the halves of the film's blocks is what they answer from its line
  pub read_same : (frames : ℕ) (s : CursorState) → read (film_line tables links) frames s ≡ read (line_from (film_halves tables links) index.items) frames s
  read_same frames s = ap (λ (line : List (LineItem Frame)). read line frames s) line_same

  pub lap_same : (place : ℕ) (s : CursorState) → lap (film_splicing tables links) (film_line tables links) place s ≡ lap (splicing_of tables index) (line_from (film_halves tables links) index.items) place s
  lap_same place s = ap (λ (by : Splicing). lap by (film_line tables links) place s) (splicing_same tables links index can) ∙ ap (λ (line : List (LineItem Frame)). lap (splicing_of tables index) line place s) line_same

  pub crossed_same : (old new : CursorState) → crossed (film_splicing tables links) (film_line tables links) old new ≡ crossed (splicing_of tables index) (line_from (film_halves tables links) index.items) old new
  crossed_same old new = ap (λ (by : Splicing). crossed by (film_line tables links) old new) (splicing_same tables links index can) ∙ ap (λ (line : List (LineItem Frame)). crossed (splicing_of tables index) line old new) line_same

  pub suits : Suits index (film_halves tables links)
  suits = (serves tables links index can).suits

  pub tell_answer : (cursor : Option Position) (p : Position) (told c : ℕ) → cursor ≡ Some p → told ≡ tell (listed index.items) (state_in index.items p)
      → cursor_answer (heard_of tables links) (Tell c) (state_at index.items cursor) ≡ (answers.Told told, state_at index.items cursor)
  tell_answer cursor p told c is same =
      let said : tell (film_line tables links) (state_in index.items p) ≡ told = tell_same tables links index can (state_in index.items p) ∙ sym same in
      rw is (ap (λ (place : ℕ). let answered : Answer × LaneCursor = (answers.Told place, Some (state_in index.items p)) in answered) said)

  pub seek_answer : (cursor : Option Position) (p q : Position) (place c : ℕ) (sought : Sought) (reply : Reply) → cursor ≡ Some p → reply ≡ sought_reply sought
      → seek (listed index.items) place (state_in index.items p) ≡ (sought, state_in index.items q)
      → cursor_answer (heard_of tables links) (Seek c place) (state_at index.items cursor) ≡ (answers.Given reply, Some (state_in index.items q))
  seek_answer cursor p q place c sought reply is reply-is state =
      rw (is, reply-is) (ap (λ (r : Sought × CursorState). let answered : Answer × LaneCursor = (answers.Given (sought_reply r.0), Some r.1) in answered) (seek_same tables links index can (state_in index.items p) place ∙ state))

-- ---- channels

channels_of_row : (number : ℕ) (link : Option FilmLink) → option_map_or (λ (f : LinkFacts). f.channels) (option_map (facts_of number) (option_map rows_of link)) 0 ≡ option_map_or (λ (l : FilmLink). l.ident.channels) link 0
unfolding facts_of rows_by
channels_of_row number None = refl
channels_of_row number (Some link) = refl

channels_same : (facts : List LinkFacts) (links : List FilmLink) (number : ℕ) → facts ≡ facts_from 0 (map rows_of links) → channels_in facts number ≡ film_channels links number
channels_same facts links number facts-are =
    let found : slice_get facts number ≡ option_map (facts_of (0 + number)) (option_map rows_of (slice_get links number)) =
    ap (λ (all : List LinkFacts). slice_get all number) facts-are
    ∙ (slice_get-facts 0 (map rows_of links) number ∙ ap (option_map (facts_of (0 + number))) (slice_get-map rows_of links number)) in
    ap (λ (one : Option LinkFacts). option_map_or (λ (f : LinkFacts). f.channels) one 0) found ∙ channels_of_row (0 + number) (slice_get links number)

-- the channels that the facts of links tell of an answer's frames are those of the film
pub answer_channels : (facts : List LinkFacts) (links : List FilmLink) (answer : Answer) → facts ≡ facts_from 0 (map rows_of links) → channels_of (channels_in facts) answer ≡ channels_of (film_channels links) answer
answer_channels facts links answers.Ok facts-are = refl
answer_channels facts links answers.AlreadyOpen facts-are = refl
answer_channels facts links answers.NoCursor facts-are = refl
answer_channels facts links (answers.Told place) facts-are = refl
answer_channels facts links (answers.Given (replies.Frames link frames)) facts-are = channels_same facts links link facts-are
answer_channels facts links (answers.Given (replies.Gap kind)) facts-are = refl
answer_channels facts links (answers.Given replies.End) facts-are = refl
answer_channels facts links (answers.Given (replies.At place)) facts-are = refl
answer_channels facts links (answers.Given (replies.Invalid total)) facts-are = refl
