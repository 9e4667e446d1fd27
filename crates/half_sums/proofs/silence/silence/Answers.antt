use Rattle.std.proofs.Common.{length, pos, inl, inr, arith}
use Rattle.std.proofs.lemmas.Bool.{cases_lt}
use Rattle.std.proofs.lemmas.List.{get_or_past}
use Rattle.half_sums.proofs.silence.silence.Goals as goal

pub returns : goal.returns
returns c k = elim (cases_lt k (length c.loop-sum.sums)) [
  | inl within ↦ c.loop-sum.invariant k (omega arith)
  | inr past ↦ get_or_past c.loop-sum.sums k (pos 0) past
]
