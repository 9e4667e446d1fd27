use Rattle.std.proofs.Common.{arith}
use Rattle.model_cursor.specs.Positions.{state_in}
use Rattle.script_playing.proofs.FilmCursors.{serves, suits, lap_same}
use Rattle.script_playing.proofs.answers.lap_open.Goals as goal

pub seek_lap-requires-clause-count : goal.seek_lap-requires-clause-count
seek_lap-requires-clause-count g c =
    let served = serves c.args.reel.now.constants c.args.reel.now.film.links c.args.reel.now.film.index c.requires.reel in
    rw (c.index-index.ensures.value, c.new-blocks.ensures) (omega (arith, served.blocks))

pub seek_lap-requires-clause-suits : goal.seek_lap-requires-clause-suits
seek_lap-requires-clause-suits g c =
    rw (c.index-index.ensures.value, c.new-blocks.ensures) (suits c.args.reel.now.constants c.args.reel.now.film.links c.args.reel.now.film.index c.requires.reel)

pub returns-clause-answer : goal.returns-clause-answer
returns-clause-answer g c =
    let given = rw (c.index-index.ensures.value, c.new-blocks.ensures) at c.seek_lap.ensures.answer in
    rw (lap_same c.args.reel.now.constants c.args.reel.now.film.links c.args.reel.now.film.index c.requires.reel c.args.place (state_in c.args.reel.now.film.index.items c.args.cursor.now)) given
