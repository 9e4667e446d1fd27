use Rattle.script_playing.proofs.FilmCursors.{tell_answer}
use Rattle.script_playing.proofs.answers.tell.Goals as goal

pub returns-in-Some : goal.returns-in-Some
returns-in-Some c = λ n.
    let position = rw c.in-Some.is at c.requires.position in
    tell_answer c.args.reel.now.constants c.args.reel.now.film.links c.args.reel.now.film.index c.requires.reel c.args.cursor.now c.in-Some.cursor c.tell.result n c.in-Some.is (c.tell.ensures c.args.reel.now.film.index position)
