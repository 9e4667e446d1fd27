use Rattle.model_writing.proofs.Whole.{packet_back}
use Rattle.model_writing.proofs.rereads_written_packets.Goals as goal

pub returns : goal.returns
returns c = packet_back
