use Rattle.model_script.proofs.Numbers.{numbers_are_written}
use Rattle.model_script.proofs.laws.numbers_are_written.Goals as goal

pub returns : goal.returns
returns c = numbers_are_written
