use Rattle.std.proofs.Common.{◌/◌, length}
use Rattle.model_cursor.proofs.Parts.{values_of-parts_of}
use Rattle.model_cursor.proofs.frames.Frames.of.Goals as goal

pub invariant_of-result : goal.invariant_of-result
invariant_of-result c =
    (c.requires.some, values_of-parts_of (length c.args.values.items / c.args.channels) c.args.channels c.args.values.items c.requires.whole)
