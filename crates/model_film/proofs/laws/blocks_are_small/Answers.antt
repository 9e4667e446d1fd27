use Rattle.model_film.proofs.SmallBlocks.{blocks_are_small}
use Rattle.model_film.proofs.laws.blocks_are_small.Goals as goal

pub returns : goal.returns
returns c = blocks_are_small
