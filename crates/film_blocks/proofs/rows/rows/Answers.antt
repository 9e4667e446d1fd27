use Rattle.std.proofs.Common.{◌∙◌, ap, arith}
use Rattle.std.proofs.lemmas.Grind.{common_steps}
use Rattle.film_blocks.specs.Fronts.{kind_by_front}
use Rattle.film_blocks.proofs.RowSteps.{front_at, row_with_mark}
use Rattle.film_blocks.proofs.rows.rows.Goals as goal

pub loop-i-preserved : goal.loop-i-preserved
loop-i-preserved c =
    let front = front_at c.args.bytes.now c.args.entries.now c.in_ok-fronts.fronts.items c.loop-i.i c.index.result.now c.index-entries-i.result c.in_ok-fronts.ensures c.loop-i-test.true c.index.ensures c.index-entries-i.is in
    let kind = c.front_kind.ensures ∙ ap (kind_by_front c.args.long_flags.now) front in
    let row = row_with_mark c.args.bytes.now c.args.long_flags.now c.index-entries-i.result c.front_kind.result c.mark.result c.requires.few kind c.mark.ensures in
    grind (arith, common_steps, row)
