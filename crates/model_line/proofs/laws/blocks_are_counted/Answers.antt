use Rattle.std.proofs.Common.{◌∙◌, arith}
use Rattle.model_line.proofs.BlockPackets.{links_behind}
use Rattle.model_line.proofs.laws.blocks_are_counted.Goals as goal

pub returns : goal.returns
returns c = λ links index h. h.count ∙ omega (arith, links_behind 0 0 links)
