use Rattle.std.proofs.Common.{sym, ◌∙◌}
use Rattle.residues.proofs.ReadingPlaces.{spread_count, row_count}
use Rattle.residues.proofs.adding.reading_count.Goals as goal

pub returns-in-Spread : goal.returns-in-Spread
returns-in-Spread c = λ first. sym (spread_count c.args.kind first c.args.size c.args.dimensions c.in-Spread.is)

pub returns-in-InRow : goal.returns-in-InRow
returns-in-InRow c = λ first. c.div_ceil.ensures ∙ sym (row_count c.args.kind first c.args.size c.args.dimensions c.in-InRow.is)
