use Rattle.model_bits.proofs.ReadsBack.{fields_back}
use Rattle.model_bits.proofs.reads_written_fields.Goals as goal

pub returns : goal.returns
returns c = fields_back
