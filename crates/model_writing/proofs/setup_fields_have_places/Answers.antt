use Rattle.model_writing.proofs.Whole.{setup_fits}
use Rattle.model_writing.proofs.setup_fields_have_places.Goals as goal

pub returns : goal.returns
returns c = setup_fits
