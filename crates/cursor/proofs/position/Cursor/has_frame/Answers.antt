use Rattle.std.proofs.Common.{sym, refl}
use Rattle.std.proofs.lemmas.Bool.{lt-ltb}
use Rattle.cursor.proofs.Inside.{inside}
use Rattle.cursor.proofs.CursorRuns.{run_at_end, run_at_gap, run_at_span}
use Rattle.cursor.proofs.position.Cursor.has_frame.Goals as goal

pub returns-in-None-clause-frame : goal.returns-in-None-clause-frame
returns-in-None-clause-frame c = rw (run_at_end c.args.index.now c.args.self.now c.requires (sym c.in-None.ensures.item)) refl

pub returns-in-Some-Gap-clause-frame : goal.returns-in-Some-Gap-clause-frame
returns-in-Some-Gap-clause-frame c = rw (run_at_gap c.args.index.now c.args.self.now _ _ c.requires (sym (rw c.in-Some-Gap.field-0-is at c.in-Some-Gap.ensures.item))) refl

pub returns-in-Some-Span-clause-frame : goal.returns-in-Some-Span-clause-frame
returns-in-Some-Span-clause-frame c = sym (lt-ltb _ _ (run_at_span c.args.index.now c.args.self.now _ (inside _ _ _ c.in-Some-Span.ensures.right c.requires (sym (rw c.in-Some-Span.field-0-is at c.in-Some-Span.ensures.item)))))
