use Rattle.model_synthesis.proofs.Nearest.{samples_have_16_bits}
use Rattle.model_synthesis.proofs.window_laws.samples_have_16_bits.Goals as goal

pub returns : goal.returns
returns c = samples_have_16_bits
