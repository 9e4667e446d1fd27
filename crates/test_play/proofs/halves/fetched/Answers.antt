use Rattle.std.proofs.Common.{arith}
use Rattle.script_playing.proofs.FilmCursors.{serves, suits}
use Rattle.test_play.proofs.halves.fetched.Goals as goal

pub read-requires-clause-count : goal.read-requires-clause-count
read-requires-clause-count g c =
    let served = serves c.args.reel.now.constants c.args.reel.now.film.links c.args.reel.now.film.index c.requires.reel in
    rw (c.index-index.ensures.value, c.new.ensures) (omega (arith, served.blocks))

pub read-requires-clause-suits : goal.read-requires-clause-suits
read-requires-clause-suits g c =
    rw (c.index-index.ensures.value, c.new.ensures) (suits c.args.reel.now.constants c.args.reel.now.film.links c.args.reel.now.film.index c.requires.reel)
