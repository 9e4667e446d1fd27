use Rattle.model_setup.proofs.Roots.{root_is_greatest}
use Rattle.model_setup.proofs.codeword_laws.root_is_greatest.Goals as goal

pub returns : goal.returns
returns c = root_is_greatest
