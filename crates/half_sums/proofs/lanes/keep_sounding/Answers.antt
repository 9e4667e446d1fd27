use Rattle.std.proofs.Common.{◌*◌, refl, length, slice_index, arith}
use Rattle.model_synthesis.specs.declared.limits.TheConstants.{SPECTRUM_LIMIT}
use Rattle.half_sums.proofs.KeptShares.{shares_kept, kept_small}
use Rattle.half_sums.proofs.lanes.keep_sounding.Goals as goal

pub loop-b-preserved : goal.loop-b-preserved
loop-b-preserved c =
    let b = c.loop-b.b in
    let count = c.loop-b.count in
    let m = slice_index c.args.magnitudes.now b in
    let s = slice_index c.args.starts.now b in
    record {
      most = omega (arith, c.count_with-count.ensures.most);
      shares = λ waves a. shares_kept c.loop-b.kept c.loop-b.kept_starts c.args.magnitudes.now c.args.starts.now waves count c.count_with-count.result b m s a (omega arith) (omega arith) refl refl c.count_with-count.ensures.silent c.count_with-count.ensures.sounding (c.loop-b.invariant.shares waves a);
      small = kept_small c.loop-b.kept count c.count_with-count.result m SPECTRUM_LIMIT (omega arith) c.count_with-count.ensures.most (c.requires.small b (omega arith)) c.loop-b.invariant.small;
      within = kept_small c.loop-b.kept_starts count c.count_with-count.result s (2 * length c.args.magnitudes.now) (omega arith) c.count_with-count.ensures.most (c.requires.within b (omega arith)) c.loop-b.invariant.within;
    }
