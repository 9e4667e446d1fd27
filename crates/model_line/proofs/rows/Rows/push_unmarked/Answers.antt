use Rattle.model_line.proofs.KeptSteps.{kept_rows-unmarked}
use Rattle.model_line.proofs.rows.Rows.push_unmarked.Goals as goal

pub returns-clause-ok : goal.returns-clause-ok
returns-clause-ok c = rw (c.in_ok-push.ensures.items, ← c.self.view_is) (kept_rows-unmarked _ _ c.args.kind c.self.invariant)
