use Rattle.std.proofs.Common.{◌≡◌, ◌%◌, arith}
use Rattle.model_synthesis.proofs.BlockSizes.{block_size_even}
use Rattle.constants_file.proofs.turns.cosine.Goals as goal

pub first_quarter-requires-then-t-block-2-clause-within :
    goal.first_quarter-requires-then-t-block-2-clause-within
first_quarter-requires-then-t-block-2-clause-within c =
    let even : c.args.block % 2 ≡ 0 = block_size_even c.args.block c.requires.block in
    omega arith

pub first_quarter-requires-else-t-block-3-clause-within :
    goal.first_quarter-requires-else-t-block-3-clause-within
first_quarter-requires-else-t-block-3-clause-within c =
    let even : c.args.block % 2 ≡ 0 = block_size_even c.args.block c.requires.block in
    omega arith
