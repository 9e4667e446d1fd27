use Rattle.std.proofs.Common.{arith, ◌∙◌, ap, sym}
use Rattle.model_cursor.specs.declared.reply.Sought.{Sought}
use Rattle.model_cursor.specs.declared.reply.Sought.TheVariants as answers
use Rattle.model_cursor.specs.Cursors.{CursorState}
use Rattle.cursor.proofs.Items.{seek_past, seek_at}
use Rattle.cursor.proofs.position.Cursor.seek.Goals as goal

pub returns-then-place-total-clause-state : goal.returns-then-place-total-clause-state
returns-then-place-total-clause-state c = seek_past _ _ _ _ c.total-total.ensures (omega arith)

pub returns-clause-state : goal.returns-clause-state
returns-clause-state c =
    seek_at _ _ _ (omega arith)
    ∙ ap (λ (s : CursorState). let r : Sought × CursorState = (answers.At c.args.place, s) in r) (sym c.at.ensures.state)
