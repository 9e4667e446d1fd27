use Rattle.model_film.proofs.BlockSizes.{blocks_are_whole}
use Rattle.model_film.proofs.laws.blocks_are_whole.Goals as goal

pub returns : goal.returns
returns c = blocks_are_whole
