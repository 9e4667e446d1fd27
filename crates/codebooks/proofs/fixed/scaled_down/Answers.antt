use Rattle.codebooks.proofs.Scales.{shifted_down}
use Rattle.codebooks.proofs.fixed.scaled_down.Goals as goal

pub returns : goal.returns
returns c = shifted_down c.args.number c.clamp.result c.args.shift c.min.result (record { sfits = c.clamp.type_inv }) c.requires c.min.ensures c.clamp.ensures.value
