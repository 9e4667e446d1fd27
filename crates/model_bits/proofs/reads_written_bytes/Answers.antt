use Rattle.model_bits.proofs.ReadsBack.{bytes_back}
use Rattle.model_bits.proofs.reads_written_bytes.Goals as goal

pub returns : goal.returns
returns c = bytes_back
