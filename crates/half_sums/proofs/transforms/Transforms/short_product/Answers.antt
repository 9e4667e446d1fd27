use Rattle.std.proofs.Common.{◌≤◌, ◌^◌, ℕ, arith, length-take}
use Rattle.std.proofs.Math.Pow.{pow_mono}
use Rattle.half_sums.proofs.transforms.Transforms.short_product.Goals as goal

pub slice_bounds-scratch-end : goal.slice_bounds-scratch-end
slice_bounds-scratch-end c =
    let most : 2 ^ c.args.levels ≤ 2 ^ 7 = pow_mono c.requires.most in
    omega arith

pub slice_bounds-sums_over-end : goal.slice_bounds-sums_over-end
slice_bounds-sums_over-end c =
    let most : 2 ^ c.args.levels ≤ 2 ^ 7 = pow_mono c.requires.most in
    omega (arith, length-take {A = ℕ})

pub sums_over-requires-clause-values : goal.sums_over-requires-clause-values
sums_over-requires-clause-values c =
    let most : 2 ^ c.args.levels ≤ 2 ^ 7 = pow_mono c.requires.most in
    omega (arith, length-take {A = ℕ})
