use Rattle.number_transform.specs.Roots.{root_table}
use Rattle.number_transform.proofs.roots.roots.Goals as goal

pub returns : goal.returns
unfolding root_table
returns c = c.grow_all.ensures
