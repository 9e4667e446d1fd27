use Rattle.std.proofs.Common.{arith}
use Rattle.codebooks.proofs.Permuted.{walked_some, walked_none, read_none, read_end, read_bit}
use Rattle.codebooks.proofs.word_table.WordTable.read_entry.Goals as goal

pub returns-in-empty-clause-ended : goal.returns-in-empty-clause-ended
returns-in-empty-clause-ended c = λ book p apart. read_none book c.args.self.now c.args.bits.now.left (rw (← c.self.view_is, ← c.as_slice.ensures.value) c.in-empty.len_below) p

pub returns-in_err-take-in-len1-clause-ended : goal.returns-in_err-take-in-len1-clause-ended
returns-in_err-take-in-len1-clause-ended c = λ book p apart.
    rw c.from_residual.ensures (read_end book c.args.self.now c.args.bits.now.left (rw (← c.self.view_is, ← c.as_slice.ensures.value) c.in-len1.len_at_least) (rw (← c.self.view_is, ← c.as_slice.ensures.value) c.in-len1.len_below) p c.in_err-take-in-len1.ensures.ended.0)

pub returns-in_ok-take-in-len1-clause-found : goal.returns-in_ok-take-in-len1-clause-found
returns-in_ok-take-in-len1-clause-found c = λ book p apart.
    rw c.as_slice.ensures.value (read_bit book c.self.inside.words.items c.args.bits.now.left c.take.new.self.left c.in_ok-take-in-len1.field-0 (record { entry = 0; len = 0; start = 0 })
    (rw (← c.as_slice.ensures.value) c.in-len1.len_at_least) (rw (← c.as_slice.ensures.value) c.in-len1.len_below) (rw c.self.view_is p) c.in_ok-take-in-len1.ensures.taken)

pub returns-in_default-clause-found : goal.returns-in_default-clause-found
returns-in_default-clause-found c = λ book p apart. walked_some book c.args.self.now c.args.bits.now.left c.look_up.new.bits.left c.look_up.result (rw (← c.self.view_is) c.self.invariant.placed) (rw (← c.self.view_is, ← c.as_slice.ensures.value) (omega arith)) p apart c.look_up.ensures.found

pub returns-in_default-clause-ended : goal.returns-in_default-clause-ended
returns-in_default-clause-ended c = λ book p apart. walked_none book c.args.self.now c.args.bits.now.left c.look_up.result (rw (← c.self.view_is, ← c.as_slice.ensures.value) (omega arith)) p c.look_up.ensures.ended
