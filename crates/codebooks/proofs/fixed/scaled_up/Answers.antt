use Rattle.codebooks.proofs.Scales.{shifted_up}
use Rattle.codebooks.proofs.fixed.scaled_up.Goals as goal

pub returns : goal.returns
returns c =
    shifted_up c.args.number c.clamp.result c.saturating_mul.result c.args.shift c.min.result (record { sfits = c.clamp.type_inv }) (record { sfits = c.saturating_mul.type_inv }) c.requires c.min.ensures c.saturating_mul.ensures c.clamp.ensures.value
