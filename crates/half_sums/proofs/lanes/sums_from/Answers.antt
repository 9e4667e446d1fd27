use Rattle.std.proofs.Common.{◌+◌, ◌≤◌, ◌^◌, subst, sym, arith}
use Rattle.half_sums.proofs.LaneLemmas.{share_sum_small, few_shares}
use Rattle.half_sums.proofs.lanes.sums_from.Goals as goal

pub add_share-sums-requires-clause-sums : goal.add_share-sums-requires-clause-sums
add_share-sums-requires-clause-sums c i h =
    let b = c.loop-b.b in
    subst (λ x. x ≤ 2 ^ 62) (sym (c.loop-b.invariant.sums i h))
    (few_shares _ b
    (share_sum_small c.args.magnitudes.now c.args.starts.now c.args.waves.now b (c.args.first + i) (λ k below. c.requires.small k (omega arith)) c.requires.waves)
    (omega arith))
