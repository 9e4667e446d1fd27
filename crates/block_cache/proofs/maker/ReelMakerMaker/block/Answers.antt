use Rattle.block_cache.proofs.LinkSetups.{setup_of_block}
use Rattle.block_cache.proofs.maker.ReelMakerMaker.block.Goals as goal

pub block-requires-clause-setup : goal.block-requires-clause-setup
block-requires-clause-setup g c =
    let within = rw (← c.self.view_is) at c.requires.block in
    let right = rw (← c.self.view_is) at c.requires.setup in
    setup_of_block c.self.inside.reel.now.film.links c.args.block c.args.setup.now within right
