use Rattle.model_writing.proofs.Whole.{packet_read}
use Rattle.model_writing.proofs.setups_of_packets_were_read.Goals as goal

pub returns : goal.returns
returns c = packet_read
