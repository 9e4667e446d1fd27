use Rattle.std.proofs.Common.{◌≡◌, ◌++◌, length, refl, ap, sym, arith, map, None}
use Rattle.model_line.specs.declared.trim.Cuts.{Cuts}
use Rattle.model_line.specs.Decode.{linear_decode}
use Rattle.model_line.specs.Trim.{trimmed}
use Rattle.model_line.specs.Lines.{link_line}
use Rattle.model_line.specs.Origins.{entry_of, kind_of, numbered_entries, origins, listed}
use Rattle.model_line.proofs.Levels.{origins_cuts}
use Rattle.film_index.proofs.RowSteps.{rows_step, rows_end, edge_here, edge_next, number_next, number_end, some_after}
use Rattle.film_index.proofs.listing.Listing.add_rows.Goals as goal

pub loop-row-init : goal.loop-row-init
unfolding link_line
loop-row-init c =
    let entries = map (entry_of c.args.sizes.short c.args.sizes.long) c.args.rows.now in
    let line = numbered_entries c.args.self.now.counts.blocks entries in
    let all-rows : c.into_iter-row-iterator.result ≡ c.args.rows.now = cc (c.into_iter-row-iterator.ensures.into_iter_gives, c.iter-row-items.ensures) in
    record {
      can = tt;
      finite = tt;
      listed = rw (all-rows, c.start-walk.ensures.frames, c.start-walk.ensures.previous, c.cuts-cuts.ensures.cuts) (ap (λ (k : Cuts). listed c.args.self.now.lists.items.items ++ trimmed k 0 (linear_decode c.args.number origins None line)) (sym (origins_cuts c.args.self.now.counts.blocks entries)));
      blocks = rw all-rows refl;
      right = c.requires.right;
      within = rw all-rows (omega arith);
      grown = record { total = omega arith; gaps = omega arith; blocks = omega arith };
      edge = rw (all-rows, c.start-walk.ensures.frames, c.start-walk.ensures.previous) c.cuts-cuts.ensures.edge;
      fits = rw c.start-walk.ensures.previous tt;
      some = rw c.start-walk.ensures.previous tt;
      frames = rw all-rows (omega arith);
    }

pub add_row-requires-clause-edge : goal.add_row-requires-clause-edge
add_row-requires-clause-edge c = edge_here c.args.sizes.short c.args.sizes.long c.loop-row.walk.frames c.cuts-cuts.result.end.to c.loop-row.walk.previous _ c.in-Some.row _ c.in-Some.ensures.steps c.loop-row.invariant.edge

pub loop-row-preserved : goal.loop-row-preserved
loop-row-preserved c =
    let short = c.args.sizes.short in
    let long = c.args.sizes.long in
    let step = c.in-Some.ensures.steps in
    let old = c.loop-row.invariant in
    let added = c.in_ok-add_row.ensures in
    let one-fewer = ap length step in
    record {
      can = tt;
      finite = tt;
      listed = rows_step c.cuts-cuts.result c.args.number short long c.loop-row.counts.blocks _ c.loop-row.walk.frames _ c.loop-row.walk.previous _ _ c.in-Some.row _ _ _ _ step added.listed added.blocks added.frames added.previous old.listed;
      blocks = number_next short long c.loop-row.counts.blocks _ _ c.in-Some.row _ _ step added.blocks old.blocks;
      right = added.right;
      within = omega (arith, one-fewer);
      grown = record { total = omega (arith, added.grown, one-fewer); gaps = omega (arith, added.grown, one-fewer); blocks = omega (arith, added.grown, one-fewer) };
      edge = edge_next short long c.loop-row.walk.frames _ c.cuts-cuts.result.end.to c.loop-row.walk.previous _ _ c.in-Some.row _ step added.frames added.previous old.edge;
      fits = added.fits;
      some = rw (added.previous, added.blocks) (some_after c.loop-row.counts.blocks (kind_of short long c.in-Some.row.kind) c.loop-row.walk.previous old.some);
      frames = omega (arith, one-fewer);
    }

pub returns-clause-listed : goal.returns-clause-listed
returns-clause-listed c = rows_end c.cuts-cuts.result c.args.number c.args.sizes.short c.args.sizes.long c.loop-row.counts.blocks c.loop-row.walk.frames c.loop-row.walk.previous _ _ _ c.in-None.ensures.steps.0 c.loop-row.invariant.listed

pub returns-clause-blocks : goal.returns-clause-blocks
returns-clause-blocks c = number_end c.args.sizes.short c.args.sizes.long c.loop-row.counts.blocks _ _ c.in-None.ensures.steps.0 c.loop-row.invariant.blocks
