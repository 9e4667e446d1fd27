use Rattle.codebooks.proofs.TreeWords.{words_separate}
use Rattle.codebooks.proofs.tree_laws.words_are_separate.Goals as goal

pub returns : goal.returns
returns c = words_separate
