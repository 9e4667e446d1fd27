use Rattle.std.proofs.Common.{arith, ap, sym, ◌∙◌, Ok, take}
use Rattle.std.proofs.lemmas.List.{take_rest}
use Rattle.model_bits.specs.Bits.{bits_of}
use Rattle.head_packets.proofs.Texts.{text_read, text_cut}
use Rattle.head_packets.proofs.comments.split_text.Goals as goal

pub returns-then-rest-size : goal.returns-then-rest-size
returns-then-rest-size c = text_cut c.args.bytes.now c.in_ok-size.size c.in_ok-size.rest.now c.in_ok-size.ensures.number c.in_ok-size.ensures.rest (λ i. omega (arith, c.type_inv.bytes i)) c.if-rest-size.true

pub returns : goal.returns
returns c =
    text_read c.args.bytes.now c.in_ok-size.size c.in_ok-size.rest.now c.in_ok-size.ensures.number c.in_ok-size.ensures.rest (λ i. omega (arith, c.type_inv.bytes i)) c.if-rest-size.false
    ∙ ap (λ xs. Ok (take c.in_ok-size.size c.in_ok-size.rest.now, bits_of xs)) (sym (take_rest c.in_ok-size.rest.now c.in_ok-size.size))
