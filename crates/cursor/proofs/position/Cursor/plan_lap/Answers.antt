use Rattle.std.proofs.Common.{◌∙◌, ap, sym, arith}
use Rattle.model_cursor.specs.Cursors.{CursorState}
use Rattle.model_cursor.specs.Plans.{splice_needs}
use Rattle.cursor.proofs.CursorRuns.{place_of}
use Rattle.cursor.proofs.Planned.{no_lap, lap_to}
use Rattle.cursor.proofs.position.Cursor.plan_lap.Goals as goal

pub returns-then-place-total-clause-plan : goal.returns-then-place-total-clause-plan
returns-then-place-total-clause-plan c = c.new.ensures ∙ sym (no_lap c.args.index.now _ c.args.place (omega arith))

pub returns-clause-plan : goal.returns-clause-plan
returns-clause-plan c =
    c.in_ok-plan_cross.ensures.plan
    ∙ ap (λ (s : CursorState). splice_needs c.args.index.now (place_of c.args.index.now c.args.self.now) s.place) c.at-new.ensures.state
    ∙ sym (lap_to c.args.index.now (place_of c.args.index.now c.args.self.now) c.args.place (omega arith))
