use Rattle.model_synthesis.proofs.Waves.{wave_half}
use Rattle.model_synthesis.proofs.BlockSizes.{block_size_some}
use Rattle.model_synthesis.proofs.laws.cosq_changes_its_sign.Goals as goal

pub returns : goal.returns
returns c tables size t is odd = wave_half size _ t (block_size_some size is)
