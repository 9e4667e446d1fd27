use Rattle.std.proofs.Common.{◌≡◌, ◌∙◌, ◌<◌, ◌-◌, ℕ, sym, ap, subst, length, get_or, List, [], ℤ, arith}
use Rattle.std.proofs.lemmas.List.{get_or_default}
use Rattle.model_setup.specs.declared.setup.Coupling.{Coupling}
use Rattle.model_setup.specs.SetupPacket.{IsCoupling}
use Rattle.model_synthesis.specs.Coupling.{bin_count, AreChannels, without_step}
use Rattle.fixed_synthesis.proofs.Channels.{undone_more, undone_all, by_numbers, after_step, length-without_step}
use Rattle.fixed_synthesis.proofs.coupling.uncouple_all.Goals as goal

pub loop-n-preserved : goal.loop-n-preserved
loop-n-preserved c =
    let place : ℕ = length c.args.steps.now - 1 - c.loop-n.n in
    let none : Coupling = record { magnitude = 0; angle = 0 } in
    let step : Coupling = get_or c.args.steps.now place none in
    let some : place < length c.args.steps.now = omega arith in
    let found : step ≡ get_or c.args.steps.now place step = get_or_default c.args.steps.now place none step some in
    let is : IsCoupling (length c.args.channels.now) step = c.requires.steps place none some in
    let here : IsCoupling (length c.loop-n.channels) step = subst (λ n. IsCoupling n step) (sym c.loop-n.auto.channels) is in
    let made : c.uncouple_two.new.channels ≡ without_step c.loop-n.channels step =
    c.uncouple_two.ensures
    ∙ by_numbers c.loop-n.channels c.from.result c.from-in-loop-n.result step
    c.from.ensures c.from-in-loop-n.ensures in
    let are : AreChannels (bin_count c.args.channels.now) c.uncouple_two.new.channels =
    subst (AreChannels (bin_count c.args.channels.now)) (sym made) (after_step (bin_count c.args.channels.now) c.loop-n.channels step here c.loop-n.invariant.channels) in
    let count : length c.uncouple_two.new.channels ≡ length c.loop-n.channels = ap length made ∙ length-without_step c.loop-n.channels step in
    let within : step.magnitude < length c.loop-n.channels = here.magnitude in
    record {
      values = made
          ∙ (ap (λ (xs : List (List ℤ)). without_step xs step) c.loop-n.invariant.values
          ∙ sym (undone_more c.args.steps.now c.args.channels.now c.loop-n.n step c.loop-n-test.true found));
      channels = are;
      bins = are.sizes 0 [] (omega arith);
    }

pub returns-clause-values : goal.returns-clause-values
returns-clause-values c =
    let all : c.loop-n.n ≡ length c.args.steps.now = omega arith in
    c.loop-n.invariant.values ∙ undone_all c.args.steps.now c.args.channels.now c.loop-n.n all
