use Rattle.codebooks.proofs.TreeWords.{entry_read}
use Rattle.codebooks.proofs.tree_laws.entries_are_read.Goals as goal

pub returns : goal.returns
returns c = entry_read
