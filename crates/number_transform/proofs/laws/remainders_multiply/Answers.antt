use Rattle.number_transform.proofs.RemainderLaws.{remainders_product}
use Rattle.number_transform.proofs.laws.remainders_multiply.Goals as goal

pub returns : goal.returns
returns _ w size d node c a b roots some room root = remainders_product w size d node c a b roots some room root
