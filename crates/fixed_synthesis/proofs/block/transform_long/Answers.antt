use Rattle.std.proofs.Common.{◌≤◌, ℤ, length, arith, length-take}
use Rattle.fixed_synthesis.proofs.AllSums.{most_bins}
use Rattle.fixed_synthesis.proofs.block.transform_long.Goals as goal

pub slice_bounds-sums-end : goal.slice_bounds-sums-end
slice_bounds-sums-end c = most_bins (length c.args.spectrum.now) c.requires.size

pub slice_bounds-transform_over-end : goal.slice_bounds-transform_over-end
slice_bounds-transform_over-end c =
    let most : length c.args.spectrum.now ≤ 4096 = most_bins (length c.args.spectrum.now) c.requires.size in
    omega (arith, length-take {A = ℤ})

pub transform_over-requires-clause-sums : goal.transform_over-requires-clause-sums
transform_over-requires-clause-sums c =
    let most : length c.args.spectrum.now ≤ 4096 = most_bins (length c.args.spectrum.now) c.requires.size in
    omega (arith, length-take {A = ℤ})
