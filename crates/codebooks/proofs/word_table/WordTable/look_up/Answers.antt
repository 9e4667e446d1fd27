use Rattle.std.proofs.Common.{◌<◌, length, arith}
use Rattle.codebooks.proofs.Looks.{near_word, near_some, near_short}
use Rattle.codebooks.proofs.word_table.WordTable.look_up.Goals as goal

pub returns-in_err-take-clause-ended : goal.returns-in_err-take-clause-ended
returns-in_err-take-clause-ended c =
    let t = c.self.inside in
    let i = c.self.invariant in
    let left = c.args.bits.now.left in
    let place = c.index-place.result.now in
    let look = c.look.result in
    let within : look < length t.places.items = rw i.places_are.count c.look.ensures.below in
    let f = i.few in
    let n = c.if-place-eq0.false in
    let s = near_word t.words.items t.width look left place i.placed (omega arith) c.look.ensures.number (rw (← c.index-place.ensures) at (i.places_are.each look place within)) (omega arith) in
    rw (c.from_residual.ensures, ← c.self.view_is) (near_short t.words.items t.width left place i.placed i.apart s (rw (← c.from.ensures) c.in_err-take.ensures.ended.0))

pub returns-clause-found : goal.returns-clause-found
returns-clause-found c =
    let t = c.self.inside in
    let i = c.self.invariant in
    let left = c.args.bits.now.left in
    let place = c.index-place.result.now in
    let look = c.look.result in
    let within : look < length t.places.items = rw i.places_are.count c.look.ensures.below in
    let f = i.few in
    let n = c.if-place-eq0.false in
    let s = near_word t.words.items t.width look left place i.placed (omega arith) c.look.ensures.number (rw (← c.index-place.ensures) at (i.places_are.each look place within)) (omega arith) in
    rw (← c.self.view_is) (near_some t.words.items t.width c.in_ok-take.field-0 left c.take.new.self.left place i.placed s (rw (← c.from.ensures) c.in_ok-take.ensures.taken))
