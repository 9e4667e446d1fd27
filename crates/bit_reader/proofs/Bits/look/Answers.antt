use Rattle.bit_reader.proofs.Moves.{looks_behind}
use Rattle.bit_reader.proofs.Bits.look.Goals as goal

pub returns-clause-number : goal.returns-clause-number
returns-clause-number c =
    let s = c.self.inside in
    rw (← c.self.view_is) (looks_behind s.bytes.now s.byte s.bit c.args.count c.number_at.result c.number_at.ensures.number)
