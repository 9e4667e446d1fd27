use Rattle.std.proofs.Common.{◌+◌, ◌∙◌, ap, sym, arith, drop}
use Rattle.model_cursor.specs.Positions.{Position}
use Rattle.cursor.proofs.CursorStates.{passed_in, passed_to, frames_left}
use Rattle.cursor.proofs.position.Cursor.pass.Goals as goal

pub overflow_add-self : goal.overflow_add-self
overflow_add-self c = let left = frames_left c.args.index.now.items c.args.self.now c.args.count c.requires.position.position c.requires.run in omega (arith, left, ap (λ (p : Position). p.told) c.self.view_is, c.requires.right.fits)

pub item_behind-self-inside-requires : goal.item_behind-self-inside-requires
item_behind-self-inside-requires c = let left = frames_left c.args.index.now.items c.args.self.now c.args.count c.requires.position.position c.requires.run in omega (arith, left, ap (λ (p : Position). p.told) c.self.view_is)

pub returns-clause-state : goal.returns-clause-state
returns-clause-state c = passed_to c.args.index.now.items c.args.self.now _ c.args.count c.requires.position.position c.requires.some c.requires.run
    (ap (λ (p : Position). p.told + c.args.count) c.self.view_is)
    c.item_behind-self-inside.ensures.place
    (c.pass.ensures ∙ ap (λ (p : Position). drop c.args.count p.patch) c.self.view_is)

pub returns-clause-position : goal.returns-clause-position
returns-clause-position c = passed_in c.args.index.now c.args.self.now _ c.args.count c.requires.position c.requires.run (c.item_behind-self-inside.ensures.position _)
    (sym (passed_to c.args.index.now.items c.args.self.now _ c.args.count c.requires.position.position c.requires.some c.requires.run
    (ap (λ (p : Position). p.told + c.args.count) c.self.view_is)
    c.item_behind-self-inside.ensures.place
    (c.pass.ensures ∙ ap (λ (p : Position). drop c.args.count p.patch) c.self.view_is)))
