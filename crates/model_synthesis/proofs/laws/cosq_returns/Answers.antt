use Rattle.model_synthesis.proofs.Waves.{wave_turns}
use Rattle.model_synthesis.proofs.laws.cosq_returns.Goals as goal

pub returns : goal.returns
returns c tables size t turns is = wave_turns size _ t turns
