use Rattle.codebooks.proofs.Looks.{high_number, unclaimed_none, claimed_some, claimed_short}
use Rattle.codebooks.proofs.word_table.WordTable.look_far.Goals as goal

pub returns-in_default-clause-ended : goal.returns-in_default-clause-ended
returns-in_default-clause-ended c =
    let t = c.self.inside in
    let e = high_number c.args.bits.now.left c.look.result c.reverse_bits-number.result c.look.ensures.number c.reverse_bits-number.ensures in
    rw (← c.self.view_is) (unclaimed_none t.words.items c.args.bits.now.left c.self.invariant.placed (rw (e, c.deref.ensures.value) at c.in_default.ensures))

pub returns-in_err-take-clause-ended : goal.returns-in_err-take-clause-ended
returns-in_err-take-clause-ended c =
    let t = c.self.inside in
    let e = high_number c.args.bits.now.left c.look.result c.reverse_bits-number.result c.look.ensures.number c.reverse_bits-number.ensures in
    let f = rw (e, c.deref.ensures.value) at c.in-Some.ensures in
    rw (c.from_residual.ensures, ← c.self.view_is) (claimed_short t.words.items c.args.bits.now.left c.in-Some.word c.self.invariant.placed c.self.invariant.apart f.0 f.1 (rw (← c.from.ensures) c.in_err-take.ensures.ended.0))

pub returns-clause-found : goal.returns-clause-found
returns-clause-found c =
    let t = c.self.inside in
    let e = high_number c.args.bits.now.left c.look.result c.reverse_bits-number.result c.look.ensures.number c.reverse_bits-number.ensures in
    let f = rw (e, c.deref.ensures.value) at c.in-Some.ensures in
    rw (← c.self.view_is) (claimed_some t.words.items c.args.bits.now.left c.take.new.self.left c.in-Some.word c.in_ok-take.field-0 c.self.invariant.placed f.0 f.1 (rw (← c.from.ensures) c.in_ok-take.ensures.taken))
