use Rattle.std.proofs.Common.{sym, ap, ◌∙◌}
use Rattle.model_cursor.specs.Cursors.{CursorState}
use Rattle.model_cursor.specs.declared.reply.Reply.TheVariants as replies
use Rattle.cursor.proofs.ReadFrames.{answered}
use Rattle.cursor.proofs.SpanReads.{told_gap, told_end}
use Rattle.cursor.proofs.position.Cursor.finish_read.Goals as goal

pub returns-in-None-clause-answer : goal.returns-in-None-clause-answer
returns-in-None-clause-answer c = λ source are. told_end c.args.index.now c.args.self.now c.args.frames source c.in-None.ensures.right are.suits c.requires.position.position (sym c.in-None.ensures.item)

pub returns-in-Some-Gap-clause-answer : goal.returns-in-Some-Gap-clause-answer
returns-in-Some-Gap-clause-answer c = λ source are.
    told_gap c.args.index.now c.args.self.now _ _ c.args.frames source c.in-Some-Gap.ensures.right are.suits c.requires.position.position (sym (rw c.in-Some-Gap.field-0-is at c.in-Some-Gap.ensures.item))
    ∙ ap (λ (s : CursorState). answered (replies.Gap c.in-Some-Gap.kind) s) (sym (c.pass_gap.ensures.state c.args.index.now c.requires.position (rw (sym (rw c.in-Some-Gap.field-0-is at c.in-Some-Gap.ensures.item)) tt)))

pub returns-in-Some-Gap-clause-position : goal.returns-in-Some-Gap-clause-position
returns-in-Some-Gap-clause-position c = c.pass_gap.ensures.position c.args.index.now c.requires.position (rw (sym (rw c.in-Some-Gap.field-0-is at c.in-Some-Gap.ensures.item)) tt)
