use Rattle.std.proofs.Common.{arith}
use Rattle.half_sums.proofs.Filled.{sizes, Sizes}
use Rattle.half_sums.proofs.making.block_size.Goals as goal

pub returns-clause-size : goal.returns-clause-size
returns-clause-size c = let s : Sizes c.args.levels = sizes c.args.levels c.requires.few (omega arith) in omega arith

pub returns-clause-most : goal.returns-clause-most
returns-clause-most c = let s : Sizes c.args.levels = sizes c.args.levels c.requires.few (omega arith) in omega arith

pub returns-clause-even : goal.returns-clause-even
returns-clause-even c = let s : Sizes c.args.levels = sizes c.args.levels c.requires.few (omega arith) in omega arith

pub returns-clause-some : goal.returns-clause-some
returns-clause-some c = let s : Sizes c.args.levels = sizes c.args.levels c.requires.few (omega arith) in omega arith
