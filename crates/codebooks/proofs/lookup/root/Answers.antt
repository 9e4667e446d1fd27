use Rattle.std.proofs.Common.{◌+◌, ◌^◌, ◌<◌, ◌≤◌, sym, ◌∙◌, arith}
use Rattle.std.proofs.lemmas.Bool.{leb-true}
use Rattle.codebooks.proofs.Comparisons.{leb-past}
use Rattle.model_setup.proofs.Roots.{root_found, le-pow, zero-pow-le}
use Rattle.codebooks.proofs.lookup.root.Goals as goal

pub loop-root-init : goal.loop-root-init
loop-root-init c = record { holds = zero-pow-le c.args.entries c.args.dimensions c.requires.some; within = omega arith }

pub loop-root-preserved : goal.loop-root-preserved
loop-root-preserved c =
    let r = c.loop-root.root in
    let high : (r + 1) ^ c.args.dimensions ≤ c.args.entries = leb-true ((r + 1) ^ c.args.dimensions) c.args.entries (sym c.is_power_within.ensures ∙ c.loop-root-test.true) in
    let some = c.requires.some in
    let p = le-pow (r + 1) c.args.dimensions some in
    record { holds = high; within = omega arith }

pub returns : goal.returns
returns c =
    let r = c.loop-root.root in
    let past : c.args.entries < (r + 1) ^ c.args.dimensions = leb-past ((r + 1) ^ c.args.dimensions) c.args.entries (sym c.is_power_within.ensures ∙ c.loop-root-test.false) in
    let le = c.loop-root.invariant.within in
    root_found r c.args.entries c.args.dimensions le c.loop-root.invariant.holds past

pub loop-root-smaller : goal.loop-root-smaller
loop-root-smaller c =
    let r = c.loop-root.root in
    let high : (r + 1) ^ c.args.dimensions ≤ c.args.entries = leb-true ((r + 1) ^ c.args.dimensions) c.args.entries (sym c.is_power_within.ensures ∙ c.loop-root-test.true) in
    let some = c.requires.some in
    let p = le-pow (r + 1) c.args.dimensions some in
    omega arith
