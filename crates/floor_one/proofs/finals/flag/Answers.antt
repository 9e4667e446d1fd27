use Rattle.floor_one.proofs.Flags.{values_stay, one_flagged, still_small}
use Rattle.floor_one.proofs.finals.flag.Goals as goal

pub returns-clause-values : goal.returns-clause-values
returns-clause-values c = values_stay c.args.finals.now c.args.i

pub returns-clause-flags : goal.returns-clause-flags
returns-clause-flags c = λ k h. one_flagged c.args.finals.now c.args.i k c.requires

pub returns-clause-small : goal.returns-clause-small
returns-clause-small c = λ h. still_small c.args.finals.now c.args.i c.requires h
