use Rattle.trial_film_laws.proofs.Blocks.{made_packets_are_blocks}
use Rattle.trial_film_laws.proofs.made_packets_are_blocks.Goals as goal

pub returns : goal.returns
returns c = made_packets_are_blocks
