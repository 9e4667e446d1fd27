use Rattle.model_ogg.proofs.WrittenPages.{pages_read_back_law}
use Rattle.model_ogg.proofs.pages_read_back.Goals as goal

pub returns : goal.returns
returns c = pages_read_back_law
