use Rattle.std.proofs.Common.{arith}
use Rattle.model_setup.proofs.Sizes.{size-most}
use Rattle.codebooks.proofs.word_table.has_number.Goals as goal

pub overflow_add-end : goal.overflow_add-end
overflow_add-end c =
    let r = c.from.type_inv in
    let e = c.size_of.ensures in
    let m = size-most c.from-2.result in
    omega arith
