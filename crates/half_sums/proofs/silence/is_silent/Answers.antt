use Rattle.std.proofs.Common.{length, pos, inl, inr, arith}
use Rattle.std.proofs.lemmas.Bool.{cases_lt}
use Rattle.std.proofs.lemmas.List.{get_or_past}
use Rattle.half_sums.proofs.silence.is_silent.Goals as goal

pub returns : goal.returns
returns c silent k = elim (cases_lt k (length c.args.spectrum.now)) [
  | inl within ↦ c.loop-bin.invariant k (omega arith)
  | inr past ↦ get_or_past c.args.spectrum.now k (pos 0) past
]
