use Rattle.std.proofs.Common.{sym}
use Rattle.model_bits.specs.Bits.{bits_of}
use Rattle.head_packets.proofs.Texts.{comment_read}
use Rattle.head_packets.proofs.comments.comment.Goals as goal

pub returns : goal.returns
returns c =
    let texts = c.in_ok-rest.ensures in
    sym (comment_read c.args.bytes.now (bits_of c.in_ok-body.body.now) (bits_of c.in_ok-_vendor.list.now) (bits_of c.in_ok-count.texts.now) (bits_of c.in_ok-rest.rest.now) c.in_ok-_vendor._vendor.now c.in_ok-count.count texts.0
    c.in_ok-body.ensures c.in_ok-_vendor.ensures c.in_ok-count.ensures.number texts.1 c.in_ok-check_framing.ensures)
