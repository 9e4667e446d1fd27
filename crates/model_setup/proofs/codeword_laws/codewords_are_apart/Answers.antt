use Rattle.model_setup.proofs.Digits.{never_begins}
use Rattle.model_setup.proofs.codeword_laws.codewords_are_apart.Goals as goal

pub returns : goal.returns
returns c = never_begins
