use Rattle.film_maker.proofs.Tables.{setup_again, setup_is_read}
use Rattle.film_maker.proofs.made_setup.read_setup.Goals as goal

pub unreachable-requires : goal.unreachable-requires
unreachable-requires c =
    let read = setup_again c.args.channels c.args.bytes.now c.requires.some c.requires.few c.requires.bytes in
    let refused = rw c.in-Err-Bad.field-0-is at c.in-Err-Bad.ensures.answers in
    let is = refused (λ e. cc) in
    cc

pub returns-in-Ok : goal.returns-in-Ok
returns-in-Ok c =
    let read = setup_again c.args.channels c.args.bytes.now c.requires.some c.requires.few c.requires.bytes in
    setup_is_read c.args.channels c.args.bytes.now c.in-Ok.setup read c.in-Ok.ensures.answers
