use Rattle.ogg_packets.proofs.PieceLaws.{joined-one}
use Rattle.ogg_packets.proofs.segments.with_piece.Goals as goal

pub returns-in_ok-add-in-Some-clause-lies : goal.returns-in_ok-add-in-Some-clause-lies
returns-in_ok-add-in-Some-clause-lies c = λ end fits before.
    let was = rw c.in-Some.is at before in
    let here = rw (← c.from.ensures) at fits in
    c.in_ok-add-in-Some.ensures.added.place end was (record { before = here })

pub returns-in-None-clause-bytes : goal.returns-in-None-clause-bytes
returns-in-None-clause-bytes c = λ bytes. rw (c.one.ensures, c.in-None.is, c.from.ensures) (joined-one bytes (record { place = c.args.place; len = c.args.lace }))
