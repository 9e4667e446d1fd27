use Rattle.std.proofs.Common.{◌≡◌, ◌≤◌, sym, subst, length, get_or, pos, inl, inr, arith}
use Rattle.std.proofs.lemmas.Bool.{cases_lt}
use Rattle.std.proofs.lemmas.List.{get_or_past}
use Rattle.half_sums.specs.HalfSums.{AreHalfSums}
use Rattle.model_synthesis.specs.Spectrum.{IsBin}
use Rattle.fixed_synthesis.proofs.sums.half_sums.Goals as goal

pub half_sums-requires-clause-bins : goal.half_sums-requires-clause-bins
half_sums-requires-clause-bins c k = elim (cases_lt k (length c.args.spectrum.now)) [
  | inl within ↦ c.requires.bins k (pos 0) within
  | inr past ↦ subst IsBin (sym (get_or_past c.args.spectrum.now k (pos 0) past)) (omega arith)
]

pub returns : goal.returns
returns c =
    subst (λ cosines. AreHalfSums cosines c.args.spectrum.now c.half_sums.new.sums) c.transforms.ensures c.half_sums.ensures
