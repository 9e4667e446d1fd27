use Rattle.std.proofs.Common.{◌≡◌, ◌<◌, ◌+◌, ◌-◌, ◌*◌, ◌∙◌, ℕ, ap, slice_index, inl, inr, arith}
use Rattle.std.proofs.lemmas.Bool.{cases_lt}
use Rattle.half_sums.specs.Shares.{share_sum}
use Rattle.half_sums.proofs.lanes.group_sums.Goals as goal

pub loop-group-preserved : goal.loop-group-preserved
loop-group-preserved c a h =
    let first : ℕ = 16 * c.loop-group.group in
    elim (cases_lt a first) [
      | inl before ↦ c.put_lanes.ensures.kept a before ∙ c.loop-group.invariant a before
      | inr here ↦
          let i : ℕ = a - first in
          let place : first + i ≡ a = omega arith in
          let within : i < 16 = omega arith in
          ap (slice_index c.put_lanes.new.values) {x = a} {y = first + i} (omega arith)
          ∙ (c.put_lanes.ensures.written i within ∙ (c.sums_from.ensures.sums i within
          ∙ ap (share_sum c.args.magnitudes.now c.args.starts.now c.args.waves.now c.args.count) place))
    ]
