use Rattle.std.proofs.Common.{◌<◌, length, subst, sym, inl, inr, arith}
use Rattle.std.proofs.lemmas.List.{get_or_past}
use Rattle.std.proofs.lemmas.Bool.{cases_lt}
use Rattle.number_transform.specs.declared.field.TheConstants.{PRIME}
use Rattle.half_sums.proofs.exchange.gather.Goals as goal

pub returns-clause-small : goal.returns-clause-small
returns-clause-small c k = elim (cases_lt k (length c.loop-b.values)) [
  | inl within ↦ c.loop-b.invariant.small k (omega arith)
  | inr past ↦ subst (λ x. x < PRIME) (sym (get_or_past c.loop-b.values k 0 past)) (omega arith)
]
