use Rattle.std.proofs.Common.{slice_index}
use Rattle.number_transform.proofs.Fours.{four_remainders}
use Rattle.number_transform.proofs.forward.fold_four.Goals as goal

pub returns-clause-remainders : goal.returns-clause-remainders
returns-clause-remainders c =
    four_remainders (slice_index c.args.roots.now) c.args.node c.args.values.now _ _ _ _ _ _ _ _ c.requires.size
    c.fold_pair-a.ensures.front c.fold_pair-a.ensures.back c.fold_pair-b.ensures.front c.fold_pair-b.ensures.back
    c.fold_pair-first.ensures.front c.fold_pair-first.ensures.back c.fold_pair-third.ensures.front c.fold_pair-third.ensures.back
