use Rattle.residues.proofs.Silences.{nothing_outside}
use Rattle.residues.proofs.laws.nothing_outside_the_range.Goals as goal

pub returns : goal.returns
returns c = nothing_outside
