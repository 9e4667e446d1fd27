use Rattle.std.proofs.Common.{◌≡◌, ◌∙◌, length, ap, sym, subst}
use Rattle.model_synthesis.specs.declared.window_form.WindowForm.{WindowForm}
use Rattle.model_synthesis.specs.Windows.{IsWindowForm, windowed}
use Rattle.lap_window.proofs.Slopes.{is_window_form}
use Rattle.lap_window.proofs.Sides.{both_sides}
use Rattle.lap_window.proofs.windows.window.Goals as goal

pub returns-clause-value : goal.returns-clause-value
returns-clause-value c =
    let tables = c.args.constants.now in
    let old = c.args.block.now in
    let made = c.window_form-form.ensures in
    let is : IsWindowForm c.window_form-form.result =
    subst IsWindowForm (sym made) (is_window_form c.args.short c.args.long c.args.prev c.args.next (length c.args.block.now) c.requires.short c.requires.size c.requires.if_long) in
    let size : length c.args.block.now ≡ c.window_form-form.result.size = sym (ap (λ (f : WindowForm). f.size) made) in
    subst (λ f. c.fall.new.block ≡ windowed c.args.constants.now f c.args.block.now) made
    (both_sides tables c.window_form-form.result old is c.rise.new.block c.fall.new.block size (c.fall.auto.block ∙ c.rise.auto.block) c.rise.ensures.slope c.rise.ensures.rest c.fall.ensures.slope c.fall.ensures.rest)
