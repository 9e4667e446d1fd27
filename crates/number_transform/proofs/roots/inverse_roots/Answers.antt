use Rattle.number_transform.specs.Roots.{inverse_table}
use Rattle.number_transform.proofs.roots.inverse_roots.Goals as goal

pub returns : goal.returns
unfolding inverse_table
returns c = c.grow_all.ensures
