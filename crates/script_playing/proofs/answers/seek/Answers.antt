use Rattle.script_playing.proofs.FilmCursors.{seek_answer}
use Rattle.script_playing.proofs.answers.seek.Goals as goal

pub returns-in-Some-clause-answer : goal.returns-in-Some-clause-answer
returns-in-Some-clause-answer c = λ n.
    let state = rw c.index.ensures.value at c.seek-sought.ensures.state in
    seek_answer c.args.reel.now.constants c.args.reel.now.film.links c.args.reel.now.film.index c.requires.reel c.args.cursor.now c.in-Some.cursor c.seek-sought.new.self c.args.place n c.seek-sought.result c.sought_reply.result c.in-Some.is c.sought_reply.ensures state
