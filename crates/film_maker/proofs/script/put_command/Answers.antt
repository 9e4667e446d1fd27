use Rattle.std.proofs.Common.{◌++◌, ◌∙◌, ℕ, List, ap, sym}
use Rattle.rand_pcg.specs.Lcg.{Lcg}
use Rattle.model_script.specs.declared.command.Command.{Command}
use Rattle.model_trial.specs.MadeScript.{command_line}
use Rattle.film_maker.proofs.DrawnLines.{on_ok, crosses, others, cross_line}
use Rattle.film_maker.proofs.script.put_command.Goals as goal

pub returns-then-kind-eq6-clause-written : goal.returns-then-kind-eq6-clause-written
returns-then-kind-eq6-clause-written c =
    let is = crosses c.draw-kind.result c.args.draws.now c.draw-kind.new.self c.if-kind-eq6.true c.draw-kind.ensures.drawn in
    on_ok c.put.result (λ e. e ∙ ap (λ (bs : List ℕ). c.args.bytes.now.items ++ bs) (sym cross_line) ∙ ap (λ (p : Command × Lcg). c.args.bytes.now.items ++ command_line p.0) is) c.put.ensures

pub returns-then-kind-eq6-clause-drawn : goal.returns-then-kind-eq6-clause-drawn
returns-then-kind-eq6-clause-drawn c =
    ap (λ (p : Command × Lcg). p.1) (crosses c.draw-kind.result c.args.draws.now c.draw-kind.new.self c.if-kind-eq6.true c.draw-kind.ensures.drawn)

pub returns-else-kind-eq6-clause-written : goal.returns-else-kind-eq6-clause-written
returns-else-kind-eq6-clause-written c =
    let is = others c.draw-kind.result c.args.draws.now c.draw-kind.new.self c.if-kind-eq6.false c.draw-kind.ensures.drawn in
    on_ok c.put_of_cursor.result (λ e. e ∙ ap (λ (p : Command × Lcg). c.args.bytes.now.items ++ command_line p.0) is) c.put_of_cursor.ensures.written

pub returns-else-kind-eq6-clause-drawn : goal.returns-else-kind-eq6-clause-drawn
returns-else-kind-eq6-clause-drawn c =
    c.put_of_cursor.ensures.drawn
    ∙ ap (λ (p : Command × Lcg). p.1) (others c.draw-kind.result c.args.draws.now c.draw-kind.new.self c.if-kind-eq6.false c.draw-kind.ensures.drawn)
