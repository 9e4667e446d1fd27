use Rattle.std.proofs.Common.{◌+◌, ◌∙◌, ap, ℕ, get_or, arith}
use Rattle.cursor.proofs.Slopes.{slope_past, next_slope, IsNextSlope}
use Rattle.cursor.proofs.mix.slope.Goals as goal

pub returns-then-frames-gt-LONGEST_SLOPE-clause-value : goal.returns-then-frames-gt-LONGEST_SLOPE-clause-value
returns-then-frames-gt-LONGEST_SLOPE-clause-value c = slope_past _ _ _ c.requires.right c.if-frames-gt-LONGEST_SLOPE.true

pub slope-requires-clause-size : goal.slope-requires-clause-size
slope-requires-clause-size c =
    let next : IsNextSlope c.args.frames c.max-size.result = rw c.max-size.ensures (next_slope c.args.frames c.next_power_of_two.result c.next_power_of_two.ensures.power c.next_power_of_two.ensures.lower_bound c.next_power_of_two.ensures.upper_bound c.if-frames-gt-LONGEST_SLOPE.false) in
    next.size_of

pub slope-requires-clause-place : goal.slope-requires-clause-place
slope-requires-clause-place c =
    let next : IsNextSlope c.args.frames c.max-size.result = rw c.max-size.ensures (next_slope c.args.frames c.next_power_of_two.result c.next_power_of_two.ensures.power c.next_power_of_two.ensures.lower_bound c.next_power_of_two.ensures.upper_bound c.if-frames-gt-LONGEST_SLOPE.false) in
    omega (arith, next.fits, c.requires.place)

pub returns-clause-value : goal.returns-clause-value
returns-clause-value c =
    let next : IsNextSlope c.args.frames c.max-size.result = rw c.max-size.ensures (next_slope c.args.frames c.next_power_of_two.result c.next_power_of_two.ensures.power c.next_power_of_two.ensures.lower_bound c.next_power_of_two.ensures.upper_bound c.if-frames-gt-LONGEST_SLOPE.false) in
    c.slope.ensures.value ∙ ap (λ (k : ℕ). get_or c.args.constants.now.slopes (k + c.args.place) 0) next.before
