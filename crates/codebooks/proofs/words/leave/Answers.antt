use Rattle.std.proofs.Common.{◌≤◌, ◌<◌, ◌*◌, arith}
use Rattle.model_setup.specs.Codewords.{size_of}
use Rattle.model_setup.proofs.Sizes.{size-half, size-pos}
use Rattle.codebooks.proofs.words.leave.Goals as goal

pub overflow_cast-free : goal.overflow_cast-free
overflow_cast-free c =
    let h : 2 * size_of c.loop-y.y ≤ size_of c.args.level = size-half c.args.level c.loop-y.y (omega arith) (omega arith) in
    let p : 0 < size_of c.loop-y.y = size-pos c.loop-y.y in
    omega arith

pub overflow_add-free : goal.overflow_add-free
overflow_add-free c =
    let h : 2 * size_of c.loop-y.y ≤ size_of c.args.level = size-half c.args.level c.loop-y.y (omega arith) (omega arith) in
    let p : 0 < size_of c.loop-y.y = size-pos c.loop-y.y in
    omega arith
