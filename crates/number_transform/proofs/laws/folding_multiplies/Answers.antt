use Rattle.number_transform.proofs.Folding.{folded_product}
use Rattle.number_transform.proofs.laws.folding_multiplies.Goals as goal

pub returns : goal.returns
returns _ w m a b k h = folded_product w m a b k h
