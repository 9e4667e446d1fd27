use Rattle.std.proofs.Common.{◌≡◌, subst}
use Rattle.std.specs.Prelude.{IfOk}
use Rattle.model_line.specs.Blocks.{left_half, right_half}
use Rattle.block_decoding.proofs.HeadSteps.{head_is, packet_is}
use Rattle.block_decoding.proofs.block.decode.Goals as goal

pub read_head-head-requires-clause-block : goal.read_head-head-requires-clause-block
read_head-head-requires-clause-block c =
    head_is c.args.setup.now c.args.packet.now c.long_flags.result.now c.new-bits.result.left c.long_flags.ensures c.new-bits.ensures.left c.requires.block

pub returns-clause-left : goal.returns-clause-left
returns-clause-left c =
    let whole = packet_is c.args.setup.now c.args.packet.now c.long_flags.result.now c.new-bits.result.left c.long_flags.ensures c.new-bits.ensures.left c.args.constants.now c.args.sizes
    c.read_head-head.result.mode c.read_head-head.result.previous c.read_head-head.result.next c.read_head-head.new.bits.left c.read_head-head.ensures.read in
    subst (λ block. IfOk c.decode_parts.result (λ made. made.left ≡ left_half block)) whole c.decode_parts.ensures.left

pub returns-clause-right : goal.returns-clause-right
returns-clause-right c =
    let whole = packet_is c.args.setup.now c.args.packet.now c.long_flags.result.now c.new-bits.result.left c.long_flags.ensures c.new-bits.ensures.left c.args.constants.now c.args.sizes
    c.read_head-head.result.mode c.read_head-head.result.previous c.read_head-head.result.next c.read_head-head.new.bits.left c.read_head-head.ensures.read in
    subst (λ block. IfOk c.decode_parts.result (λ made. made.right ≡ right_half block)) whole c.decode_parts.ensures.right
