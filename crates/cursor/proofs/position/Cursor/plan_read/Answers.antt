use Rattle.std.proofs.Common.{◌∙◌, ap}
use Rattle.cursor.specs.Portions.{needs_of}
use Rattle.cursor.proofs.CursorRuns.{run_needs, have_next}
use Rattle.cursor.proofs.Planned.{read_within}
use Rattle.cursor.proofs.position.Cursor.plan_read.Goals as goal

pub needs_of-requires : goal.needs_of-requires
needs_of-requires c = rw (c.deref.ensures.value, c.in_ok-portions.ensures.portions) (have_next c.args.index.now c.args.self.now c.args.frames c.in_ok-portions.ensures.right c.requires)

pub returns-clause-plan : goal.returns-clause-plan
returns-clause-plan c = c.in_ok-needs_of.ensures ∙ ap (λ ps. needs_of ps) (c.deref.ensures.value ∙ c.in_ok-portions.ensures.portions) ∙ run_needs c.args.index.now c.args.self.now c.args.frames c.in_ok-portions.ensures.right c.requires

pub returns-clause-within : goal.returns-clause-within
returns-clause-within c = read_within c.args.index.now _ c.args.frames _ c.in_ok-portions.ensures.right (c.in_ok-needs_of.ensures ∙ ap (λ ps. needs_of ps) (c.deref.ensures.value ∙ c.in_ok-portions.ensures.portions) ∙ run_needs c.args.index.now c.args.self.now c.args.frames c.in_ok-portions.ensures.right c.requires)
