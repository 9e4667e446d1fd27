use Rattle.model_bits.proofs.RoundTrip.{number_written}
use Rattle.model_bits.proofs.reads_what_was_written.Goals as goal

pub returns : goal.returns
returns c = number_written
