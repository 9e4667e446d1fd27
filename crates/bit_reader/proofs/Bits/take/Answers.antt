use Rattle.std.proofs.Common.{arith, ◌+◌, ◌*◌}
use Rattle.model_bits.proofs.BitList.{used_up}
use Rattle.bit_reader.proofs.Moves.{takes_behind}
use Rattle.bit_reader.proofs.Bits.take.Goals as goal

pub returns-then-self-div_ceil-clause-ended : goal.returns-then-self-div_ceil-clause-ended
returns-then-self-div_ceil-clause-ended c =
    let s = c.self.inside in
    rw (← c.self.view_is) ((used_up s.bytes.now (8 * s.byte + s.bit) c.args.count (omega arith)).0, c.finish.ensures.left)

pub returns-clause-taken : goal.returns-clause-taken
returns-clause-taken c =
    let s = c.self.inside in
    rw (← c.self.view_is) (takes_behind s.bytes.now s.byte s.bit c.args.count c.number_at-number.result (omega arith) c.number_at-number.ensures.number)
