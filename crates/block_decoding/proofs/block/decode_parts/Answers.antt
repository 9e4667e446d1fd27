use Rattle.std.proofs.Common.{length, get_or, false, ap, ◌∙◌}
use Rattle.block_decoding.proofs.ModeSteps.{long_is, mapping_is, block_is, shape_is, left_is, right_is, halved_is}
use Rattle.block_decoding.proofs.block.decode_parts.Goals as goal

pub synthesize-requires-clause-shape : goal.synthesize-requires-clause-shape
synthesize-requires-clause-shape c =
    (shape_is c.args.sizes c.args.head.previous c.args.head.next (get_or c.long_flags.result.now c.from.result false) c.bin_count-size.result c.requires.sizes c.bin_count-size.ensures).1

pub returns : goal.returns
returns c =
    let long = get_or c.long_flags.result.now c.from.result false in
    let bins = c.bin_count-size.result in
    let curves = c.deref-2.result.now in
    let made = c.synthesize.ensures in
    let shape = shape_is c.args.sizes c.args.head.previous c.args.head.next long bins c.requires.sizes c.bin_count-size.ensures in
    let whole = block_is c.args.setup.now c.args.head.mode c.requires.mode c.args.constants.now c.args.sizes c.args.head.previous c.args.head.next long c.args.bits.now.left c.mapping.result.now bins
    c.deref.result.now c.in_ok-parts.parts.residues.items curves c.in_ok-parts.parts.curves.items
    (long_is c.args.setup.now c.args.head.mode c.requires.mode c.long_flags.result.now c.from.result c.long_flags.ensures c.from.ensures)
    (mapping_is c.args.setup.now c.args.head.mode c.requires.mode c.mapping.result.now c.mapping.ensures)
    c.bin_count-size.ensures shape.0 c.in_ok-parts.ensures.read c.deref.ensures.value c.deref-2.ensures.value in
    record {
      left = left_is bins _ _ (length curves) whole c.synthesize.result made.left made.right made.small;
      right = right_is bins _ _ (length curves) whole c.synthesize.result made.left made.right made.small;
      halves = halved_is c.args.setup.now c.args.head.mode c.requires.mode c.synthesize.result c.mapping.result.now (length curves) bins c.mapping.ensures
          (ap length c.deref-2.ensures.value ∙ c.in_ok-parts.ensures.channels) shape.1.size made.small;
    }
