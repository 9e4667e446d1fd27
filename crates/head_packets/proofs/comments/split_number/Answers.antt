use Rattle.std.proofs.Common.{arith, ap, sym, ◌∙◌, Ok, drop}
use Rattle.std.proofs.lemmas.List.{take_rest}
use Rattle.model_bits.specs.Bits.{bits_of}
use Rattle.head_packets.proofs.ByteFields.{word_read, word_cut}
use Rattle.model_setup.specs.declared.head.CommentCause.TheVariants as causes
use Rattle.head_packets.proofs.comments.split_number.Goals as goal

pub returns-then-bytes-lt4-clause-number : goal.returns-then-bytes-lt4-clause-number
returns-then-bytes-lt4-clause-number c = word_cut causes.End c.args.bytes.now (omega arith)

pub returns-clause-number : goal.returns-clause-number
returns-clause-number c =
    word_read causes.End c.args.bytes.now c.if-bytes-lt4.false (λ i. omega (arith, c.type_inv.bytes i))
    ∙ ap (λ n. Ok (n, bits_of (drop 4 c.args.bytes.now))) (sym c.read_u32.ensures) ∙ ap (λ xs. Ok (c.read_u32.result, bits_of xs)) (sym (take_rest c.args.bytes.now 4))
