use Rattle.std.proofs.Common.{arith}
use Rattle.model_cursor.specs.Positions.{state_in}
use Rattle.script_playing.proofs.FilmCursors.{serves, suits, read_same}
use Rattle.script_playing.proofs.answers.read_open.Goals as goal

pub read-requires-clause-count : goal.read-requires-clause-count
read-requires-clause-count g c =
    let served = serves c.args.reel.now.constants c.args.reel.now.film.links c.args.reel.now.film.index c.requires.reel in
    rw (c.index-index.ensures.value, c.new-blocks.ensures) (omega (arith, served.blocks))

pub read-requires-clause-suits : goal.read-requires-clause-suits
read-requires-clause-suits g c =
    rw (c.index-index.ensures.value, c.new-blocks.ensures) (suits c.args.reel.now.constants c.args.reel.now.film.links c.args.reel.now.film.index c.requires.reel)

pub returns-clause-answer : goal.returns-clause-answer
returns-clause-answer g c =
    let given = rw (c.index-index.ensures.value, c.new-blocks.ensures) at c.read.ensures.answer in
    rw (read_same c.args.reel.now.constants c.args.reel.now.film.links c.args.reel.now.film.index c.requires.reel c.args.frames (state_in c.args.reel.now.film.index.items c.args.cursor.now)) given
