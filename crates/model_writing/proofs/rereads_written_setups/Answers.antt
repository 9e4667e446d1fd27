use Rattle.model_writing.proofs.Whole.{setup_back}
use Rattle.model_writing.proofs.rereads_written_setups.Goals as goal

pub returns : goal.returns
returns c = setup_back
