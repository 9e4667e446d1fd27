use Rattle.std.proofs.Common.{arith, ◌∙◌, ap, sym, refl}
use Rattle.model_line.specs.Origins.{listed}
use Rattle.model_line.specs.Decode.{frame_count, gap_count}
use Rattle.model_cursor.specs.Cursors.{CursorState, place_after}
use Rattle.model_cursor.proofs.Standing.{at_start}
use Rattle.cursor.proofs.Items.{stands_inside, stands_behind}
use Rattle.cursor.proofs.CursorStates.{with_patch}
use Rattle.cursor.proofs.place.item_behind.Goals as goal

pub returns-then-frames-eq0-clause-place : goal.returns-then-frames-eq0-clause-place
unfolding place_after listed gap_count
returns-then-frames-eq0-clause-place c = rw c.if-frames-eq0.true refl

pub returns-then-frames-eq0-clause-position : goal.returns-then-frames-eq0-clause-position
unfolding listed frame_count
returns-then-frames-eq0-clause-position c = λ patch. at_start c.args.index.now.items (record { item = 0; told = c.args.frames; patch = patch }) c.if-frames-eq0.true

pub returns-then-frames-end_of-clause-place : goal.returns-then-frames-end_of-clause-place
returns-then-frames-end_of-clause-place c =
    let found = c.item_of-item.ensures in
    ap (λ (s : CursorState). s.place) (stands_behind _ _ _ (record { within = found.within; from = found.from; before = found.before }) (omega arith) (c.if-frames-end_of.true ∙ c.end_of.ensures.frames)).0

pub returns-then-frames-end_of-clause-position : goal.returns-then-frames-end_of-clause-position
returns-then-frames-end_of-clause-position c = λ patch.
    let found = c.item_of-item.ensures in
    with_patch _ _ patch (stands_behind _ _ _ (record { within = found.within; from = found.from; before = found.before }) (omega arith) (c.if-frames-end_of.true ∙ c.end_of.ensures.frames)).1

pub returns-else-frames-end_of-clause-place : goal.returns-else-frames-end_of-clause-place
returns-else-frames-end_of-clause-place c =
    let found = c.item_of-item.ensures in
    ap (λ (s : CursorState). s.place) (stands_inside _ _ _ (record { within = found.within; from = found.from; before = found.before }) (omega arith) (λ e. c.if-frames-end_of.false (e ∙ sym c.end_of.ensures.frames))).0

pub returns-else-frames-end_of-clause-position : goal.returns-else-frames-end_of-clause-position
returns-else-frames-end_of-clause-position c = λ patch.
    let found = c.item_of-item.ensures in
    with_patch _ _ patch (stands_inside _ _ _ (record { within = found.within; from = found.from; before = found.before }) (omega arith) (λ e. c.if-frames-end_of.false (e ∙ sym c.end_of.ensures.frames))).1
