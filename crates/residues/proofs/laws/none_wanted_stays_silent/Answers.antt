use Rattle.residues.proofs.Silences.{none_wanted_silent}
use Rattle.residues.proofs.laws.none_wanted_stays_silent.Goals as goal

pub returns : goal.returns
returns c = none_wanted_silent
