use Rattle.std.proofs.Common.{sym, ap, ◌∙◌, ◌-◌, length}
use Rattle.cursor.proofs.Inside.{inside}
use Rattle.cursor.proofs.CursorRuns.{link_at_end, link_at_gap, link_at_span}
use Rattle.cursor.proofs.position.Cursor.link.Goals as goal

pub returns-in-None : goal.returns-in-None
returns-in-None c = c.saturating_sub.ensures ∙ ap (λ k. k - 1) c.links.ensures ∙ sym (link_at_end c.args.index.now c.args.self.now (length c.args.index.now.links) c.requires (sym c.in-None.ensures.item))

pub returns-in-Some-Gap : goal.returns-in-Some-Gap
returns-in-Some-Gap c = sym (link_at_gap c.args.index.now c.args.self.now (length c.args.index.now.links) _ _ c.requires (sym (rw c.in-Some-Gap.field-0-is at c.in-Some-Gap.ensures.item)))

pub returns-in-Some-Span : goal.returns-in-Some-Span
returns-in-Some-Span c = sym (link_at_span c.args.index.now c.args.self.now (length c.args.index.now.links) _ (inside _ _ _ c.in-Some-Span.ensures.right c.requires (sym (rw c.in-Some-Span.field-0-is at c.in-Some-Span.ensures.item))))
