use Rattle.codebooks.proofs.TreeWords.{tree_full}
use Rattle.codebooks.proofs.tree_laws.trees_are_full.Goals as goal

pub returns : goal.returns
returns c = tree_full
