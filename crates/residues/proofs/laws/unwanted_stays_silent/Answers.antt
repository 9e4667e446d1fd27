use Rattle.residues.proofs.Silences.{unwanted_silent}
use Rattle.residues.proofs.laws.unwanted_stays_silent.Goals as goal

pub returns : goal.returns
returns c = unwanted_silent
