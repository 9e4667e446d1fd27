use Rattle.film_blocks.specs.KeyedBlocks.{keyed_block}
use Rattle.film_blocks.proofs.reel.Reel.block.Goals as goal

pub returns-clause-value : goal.returns-clause-value
unfolding keyed_block
returns-clause-value c = rw c.of.ensures (λ i. record { key = c.args.block; left = c.in_ok-left.ensures.left i; right = c.in_ok-left.ensures.right i })

pub returns-clause-halves : goal.returns-clause-halves
returns-clause-halves c =
    let halved = c.in_ok-left.ensures.halves in
    rw c.of.ensures (record { size = halved.size; is_block_size = halved.is_block_size; left = halved.halves.left; right = halved.halves.right })
