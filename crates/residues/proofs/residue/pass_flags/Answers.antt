use Rattle.std.proofs.Common.{◌≤◌, Bool, true, false, arith}
use mir.Val.{bool_byte}
use Rattle.residues.proofs.PassFlags.{flags_below}
use Rattle.residues.proofs.residue.pass_flags.Goals as goal

byte_small : (b : Bool) → bool_byte b ≤ 1
byte_small true = omega arith
byte_small false = omega arith

pub overflow_mul-flags : goal.overflow_mul-flags
overflow_mul-flags c =
    let below = flags_below c.args.cascade.now c.loop-pass.pass c.told-cascade in
    omega (arith, below, c.loop-pass.invariant)

pub overflow_add-flags : goal.overflow_add-flags
overflow_add-flags c =
    let below = flags_below c.args.cascade.now c.loop-pass.pass c.told-cascade in
    omega (arith, below, c.loop-pass.invariant, c.from.ensures, byte_small c.is_some.result)

pub returns-clause-below : goal.returns-clause-below
returns-clause-below c = rw c.loop-pass.invariant (flags_below c.args.cascade.now c.loop-pass.pass c.told-cascade)
