use Rattle.std.proofs.Common.{◌+◌, subst, sym, ap, ◌∙◌}
use Rattle.model_cursor.specs.Positions.{Position, IsCursorIn, state_in}
use Rattle.cursor.proofs.CursorStates.{gap_passed}
use Rattle.cursor.proofs.position.Cursor.pass_gap.Goals as goal

pub returns-clause-state : goal.returns-clause-state
returns-clause-state c = λ index is at_one.
    ap (λ (p : Position). state_in index.items (record { item = p.item + 1; told = p.told; patch = p.patch })) c.self.view_is
    ∙ (gap_passed index c.args.self.now is at_one).state

pub returns-clause-position : goal.returns-clause-position
returns-clause-position c = λ index is at_one.
    let P : Position → Type 0 = λ p. IsCursorIn index (record { item = p.item + 1; told = p.told; patch = p.patch }) in
    subst P (sym c.self.view_is) (gap_passed index c.args.self.now is at_one).position
