use Rattle.std.proofs.Common.{◌∙◌, ap}
use Rattle.model_bits.specs.Bits.{bits_of}
use Rattle.film_maker.specs.Drawn.{made_link_of}
use Rattle.film_maker.proofs.DrawnLines.{if_ok}
use Rattle.film_maker.proofs.Tables.{packet_is, filled_is}
use Rattle.film_maker.proofs.made_setup.make_setup.Goals as goal

pub returns : goal.returns
returns c =
    let v = c.in_ok-bytes.bytes.items in
    let same = c.deref-2.ensures.value in
    let bits = filled_is c.args.link.now.channels v c.in_ok-setup.setup c.in_ok-bytes.ensures.written c.in_ok-setup.ensures in
    if_ok c.packet_of.result (λ packet e. e ∙ packet_is (made_link_of c.args.link.now) c.deref-2.result.now c.packet_of.ensures.small (ap bits_of same ∙ bits)) c.packet_of.ensures.packet
