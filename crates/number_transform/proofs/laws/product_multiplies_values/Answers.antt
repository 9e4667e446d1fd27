use Rattle.number_transform.proofs.Values.{value_product}
use Rattle.number_transform.proofs.laws.product_multiplies_values.Goals as goal

pub returns : goal.returns
returns _ n x a b = value_product n x a b
