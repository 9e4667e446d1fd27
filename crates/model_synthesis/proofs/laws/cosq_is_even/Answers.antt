use Rattle.std.proofs.Common.{sym}
use Rattle.model_synthesis.proofs.Waves.{wave_mirror}
use Rattle.model_synthesis.proofs.BlockSizes.{block_size_even, block_size_some}
use Rattle.model_synthesis.proofs.laws.cosq_is_even.Goals as goal

pub returns : goal.returns
returns c tables size t u turns is odd whole =
    sym (wave_mirror size _ t u turns whole odd (block_size_even size is) (block_size_some size is))
