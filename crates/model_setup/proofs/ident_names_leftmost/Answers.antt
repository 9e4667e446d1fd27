use Rattle.model_setup.proofs.IdentReads.{ident_names_leftmost}
use Rattle.model_setup.proofs.ident_names_leftmost.Goals as goal

pub returns : goal.returns
returns c = ident_names_leftmost
