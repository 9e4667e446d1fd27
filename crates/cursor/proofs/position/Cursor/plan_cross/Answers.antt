use Rattle.std.proofs.Common.{◌≡◌, ◌∙◌, ap, sym, true, false}
use Rattle.cursor.specs.Portions.{needs_of}
use Rattle.cursor.proofs.Planned.{no_splice, both_next, crossed_needs, cross_within}
use Rattle.cursor.proofs.position.Cursor.plan_cross.Goals as goal

pub returns-then-not-has_frame-clause-plan : goal.returns-then-not-has_frame-clause-plan
returns-then-not-has_frame-clause-plan c =
    let test : c.has_frame.result ≡ false = c.if-not-has_frame.true in
    c.new.ensures ∙ sym (no_splice c.args.index.now c.args.self.now c.args.new.now (sym c.has_frame.ensures.frame ∙ test))

pub needs_of-requires : goal.needs_of-requires
needs_of-requires c = rw c.deref.ensures.value (both_next c.args.index.now c.args.self.now c.args.new.now _ _ _ c.has_frame.ensures.right c.requires.position.position c.requires.new.position c.in_ok-portions.ensures.portions c.in_ok-add_portions.ensures.portions)

pub returns-clause-plan : goal.returns-clause-plan
returns-clause-plan c =
    let test : c.has_frame.result ≡ true = c.if-not-has_frame.false in
    c.in_ok-needs_of.ensures ∙ ap (λ ps. needs_of ps) c.deref.ensures.value ∙ crossed_needs c.args.index.now c.args.self.now c.args.new.now _ _ _ c.has_frame.ensures.right c.requires.position.position c.requires.new.position (sym c.has_frame.ensures.frame ∙ test) c.splice_len-frames.ensures c.in_ok-portions.ensures.portions c.in_ok-add_portions.ensures.portions

pub returns-clause-within : goal.returns-clause-within
returns-clause-within c =
    let test : c.has_frame.result ≡ true = c.if-not-has_frame.false in
    cross_within c.args.index.now c.args.self.now c.args.new.now _ c.has_frame.ensures.right (sym c.has_frame.ensures.frame ∙ test) (c.in_ok-needs_of.ensures ∙ ap (λ ps. needs_of ps) c.deref.ensures.value ∙ crossed_needs c.args.index.now c.args.self.now c.args.new.now _ _ _ c.has_frame.ensures.right c.requires.position.position c.requires.new.position (sym c.has_frame.ensures.frame ∙ test) c.splice_len-frames.ensures c.in_ok-portions.ensures.portions c.in_ok-add_portions.ensures.portions)
