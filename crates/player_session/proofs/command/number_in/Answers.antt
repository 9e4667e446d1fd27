use Rattle.std.proofs.Common.{sym, arith}
use Rattle.player_session.proofs.Counts.{in_range, too_low, too_high, no_number}
use Rattle.player_session.proofs.command.number_in.Goals as goal

pub returns-in-Ok : goal.returns-in-Ok
returns-in-Ok c =
    let is = rw c.as_bytes.ensures.value at c.in-Ok.ensures in
    sym (in_range c.args.least c.args.greatest c.args.word.now c.in-Ok.number is (omega (arith, c.from.ensures, c.if-from-number.true)) (omega (arith, c.from-then-from-number.ensures, c.if-number-from.true)))

pub returns-in_default : goal.returns-in_default
returns-in_default c =
    let is = rw c.as_bytes.ensures.value at c.in-Ok.ensures in
    sym (too_high c.args.least c.args.greatest c.args.word.now c.in-Ok.number is (omega (arith, c.from-then-from-number.ensures, c.if-number-from.false)))

pub returns-in_default-2 : goal.returns-in_default-2
returns-in_default-2 c =
    let is = rw c.as_bytes.ensures.value at c.in-Ok.ensures in
    sym (too_low c.args.least c.args.greatest c.args.word.now c.in-Ok.number is (omega (arith, c.from.ensures, c.if-from-number.false)))

pub returns-in_default-3 : goal.returns-in_default-3
returns-in_default-3 c =
    let not = rw c.as_bytes.ensures.value at c.in_default.ensures in
    sym (no_number c.args.least c.args.greatest c.args.word.now not.0)
