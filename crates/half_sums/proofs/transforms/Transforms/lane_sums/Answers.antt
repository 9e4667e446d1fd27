use Rattle.std.proofs.Common.{◌≤◌, ◌^◌, ℕ, arith, length-take}
use Rattle.std.proofs.Math.Pow.{pow_mono}
use Rattle.half_sums.proofs.transforms.Transforms.lane_sums.Goals as goal

pub slice_bounds-scratch-end : goal.slice_bounds-scratch-end
slice_bounds-scratch-end c =
    let most : 2 ^ c.args.levels ≤ 2 ^ 7 = pow_mono c.requires.most in
    omega arith

pub slice_bounds-lanes_over-end : goal.slice_bounds-lanes_over-end
slice_bounds-lanes_over-end c =
    let most : 2 ^ c.args.levels ≤ 2 ^ 7 = pow_mono c.requires.most in
    omega (arith, length-take {A = ℕ})

pub lanes_over-requires-clause-scratch : goal.lanes_over-requires-clause-scratch
lanes_over-requires-clause-scratch c =
    let most : 2 ^ c.args.levels ≤ 2 ^ 7 = pow_mono c.requires.most in
    omega (arith, length-take {A = ℕ})
