use Rattle.model_line.proofs.KeptSteps.{kept_rows-append}
use Rattle.model_line.proofs.rows.Rows.push_marked.Goals as goal

pub returns-in-Ok-clause-ok : goal.returns-in-Ok-clause-ok
returns-in-Ok-clause-ok c = rw (c.in-Ok.ensures.items, c.in_ok-push.ensures.items, ← c.self.view_is) (kept_rows-append _ _ _ _ c.self.invariant)
