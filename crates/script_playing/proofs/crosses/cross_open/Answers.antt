use Rattle.std.proofs.Common.{arith}
use Rattle.model_cursor.specs.Positions.{state_in}
use Rattle.script_playing.proofs.FilmCursors.{serves, suits, crossed_same}
use Rattle.script_playing.proofs.crosses.cross_open.Goals as goal

pub crosslap-requires-clause-count : goal.crosslap-requires-clause-count
crosslap-requires-clause-count g c =
    let served = serves c.args.reel.now.constants c.args.reel.now.film.links c.args.reel.now.film.index c.requires.reel in
    rw (c.index-index.ensures.value, c.new-blocks.ensures) (omega (arith, served.blocks))

pub crosslap-requires-clause-suits : goal.crosslap-requires-clause-suits
crosslap-requires-clause-suits g c =
    rw (c.index-index.ensures.value, c.new-blocks.ensures) (suits c.args.reel.now.constants c.args.reel.now.film.links c.args.reel.now.film.index c.requires.reel)

pub returns-clause-answer : goal.returns-clause-answer
returns-clause-answer g c =
    let given = rw (c.index-index.ensures.value, c.new-blocks.ensures) at c.crosslap.ensures.answer in
    rw (crossed_same c.args.reel.now.constants c.args.reel.now.film.links c.args.reel.now.film.index c.requires.reel (state_in c.args.reel.now.film.index.items c.args.old.now) (state_in c.args.reel.now.film.index.items c.args.new.now)) given
