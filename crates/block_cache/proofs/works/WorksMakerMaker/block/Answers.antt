use Rattle.block_cache.proofs.LinkSetups.{setup_of_block}
use Rattle.block_cache.proofs.works.WorksMakerMaker.block.Goals as goal

pub block-requires-clause-setup : goal.block-requires-clause-setup
block-requires-clause-setup g c =
    setup_of_block c.args.self.now.reel.now.film.links c.args.block c.args.setup.now c.requires.block c.requires.setup
