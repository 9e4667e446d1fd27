use Rattle.std.proofs.Common.{map}
use Rattle.model_line.specs.Lines.{link_cuts}
use Rattle.model_line.specs.Origins.{frame_numbers, entry_of}
use Rattle.model_line.proofs.Edges.{never_meet, end_at_edge}
use Rattle.film_index.proofs.cuts.cuts.Goals as goal

pub returns-clause-apart : goal.returns-clause-apart
unfolding link_cuts
returns-clause-apart c = rw (c.front_cut.ensures, c.end_cut.ensures) (never_meet frame_numbers (map (entry_of c.args.sizes.short c.args.sizes.long) c.args.rows.now))

pub returns-clause-edge : goal.returns-clause-edge
unfolding link_cuts
returns-clause-edge c = rw c.end_cut.ensures (end_at_edge frame_numbers (map (entry_of c.args.sizes.short c.args.sizes.long) c.args.rows.now))
