use Rattle.std.proofs.Common.{Ok, ap, ◌∙◌}
use Rattle.block_decoding.proofs.HeadSteps.{mode_there}
use Rattle.block_decoding.proofs.head.read_head.Goals as goal

pub returns-clause-there : goal.returns-clause-there
returns-clause-there c =
    mode_there c.args.long_flags.now c.in-Some-Block.mode c.in-Some-Block.prev c.in-Some-Block.next c.take-kind.new.self.left c.block_head.new.bits.left
    (c.in-Some-Block.ensures.read ∙ ap (λ h. Ok (h, c.block_head.new.bits.left)) c.in-Some-Block.field-0-is)
