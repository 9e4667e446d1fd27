use Rattle.std.proofs.Common.{◌++◌, ◌∙◌, ap}
use Rattle.rand_pcg.specs.Lcg.{Lcg}
use Rattle.model_script.specs.declared.command.Command.{Command}
use Rattle.model_trial.specs.MadeScript.{command_line}
use Rattle.film_maker.proofs.DrawnLines.{on_ok, reads, seeks, laps}
use Rattle.film_maker.proofs.script.put_for.Goals as goal

pub returns-then-kind-lt4-clause-written : goal.returns-then-kind-lt4-clause-written
returns-then-kind-lt4-clause-written c =
    let is = reads c.args.kind c.args.cursor c.draw.result c.args.draws.now c.draw.new.self c.if-kind-lt4.true c.draw.ensures.drawn in
    on_ok c.put_numbers.result (λ e. e ∙ ap (λ (p : Command × Lcg). c.args.bytes.now.items ++ command_line p.0) is) c.put_numbers.ensures

pub returns-then-kind-lt4-clause-drawn : goal.returns-then-kind-lt4-clause-drawn
returns-then-kind-lt4-clause-drawn c =
    ap (λ (p : Command × Lcg). p.1) (reads c.args.kind c.args.cursor c.draw.result c.args.draws.now c.draw.new.self c.if-kind-lt4.true c.draw.ensures.drawn)

pub returns-then-kind-eq4-clause-written : goal.returns-then-kind-eq4-clause-written
returns-then-kind-eq4-clause-written c =
    let is = seeks c.args.kind c.args.cursor c.draw-then-kind-eq4.result c.args.draws.now c.draw-then-kind-eq4.new.self c.if-kind-eq4.true c.draw-then-kind-eq4.ensures.drawn in
    on_ok c.put_numbers-then-kind-eq4.result (λ e. e ∙ ap (λ (p : Command × Lcg). c.args.bytes.now.items ++ command_line p.0) is) c.put_numbers-then-kind-eq4.ensures

pub returns-then-kind-eq4-clause-drawn : goal.returns-then-kind-eq4-clause-drawn
returns-then-kind-eq4-clause-drawn c =
    ap (λ (p : Command × Lcg). p.1) (seeks c.args.kind c.args.cursor c.draw-then-kind-eq4.result c.args.draws.now c.draw-then-kind-eq4.new.self c.if-kind-eq4.true c.draw-then-kind-eq4.ensures.drawn)

pub returns-then-kind-eq5-clause-written : goal.returns-then-kind-eq5-clause-written
returns-then-kind-eq5-clause-written c =
    let is = laps c.args.kind c.args.cursor c.draw-then-kind-eq5.result c.args.draws.now c.draw-then-kind-eq5.new.self c.if-kind-eq5.true c.draw-then-kind-eq5.ensures.drawn in
    on_ok c.put_numbers-then-kind-eq5.result (λ e. e ∙ ap (λ (p : Command × Lcg). c.args.bytes.now.items ++ command_line p.0) is) c.put_numbers-then-kind-eq5.ensures

pub returns-then-kind-eq5-clause-drawn : goal.returns-then-kind-eq5-clause-drawn
returns-then-kind-eq5-clause-drawn c =
    ap (λ (p : Command × Lcg). p.1) (laps c.args.kind c.args.cursor c.draw-then-kind-eq5.result c.args.draws.now c.draw-then-kind-eq5.new.self c.if-kind-eq5.true c.draw-then-kind-eq5.ensures.drawn)
