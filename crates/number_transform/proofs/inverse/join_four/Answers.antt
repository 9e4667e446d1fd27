use Rattle.std.proofs.Common.{◌+◌, ◌*◌, slice_index, arith}
use Rattle.number_transform.proofs.Fours.{four_joined}
use Rattle.number_transform.proofs.inverse.join_four.Goals as goal

pub returns-clause-polynomial : goal.returns-clause-polynomial
returns-clause-polynomial c w v laws given =
    let node = c.args.node in
    four_joined w v (slice_index c.args.inverses.now) node c.args.values.now _ _ _ _ _ _ _ _ c.requires.size
    laws.small (laws.one node (omega arith)) (laws.one (2 * node) (omega arith)) (laws.one (2 * node + 1) (omega arith)) given
    c.join_pair-a.ensures.front c.join_pair-a.ensures.back c.join_pair-c.ensures.front c.join_pair-c.ensures.back
    c.join_pair-first.ensures.front c.join_pair-first.ensures.back c.join_pair-second.ensures.front c.join_pair-second.ensures.back
