use Rattle.std.proofs.Common.{◌++◌, ℕ, List, ap, ◌∙◌, arith}
use Rattle.std.specs.List.{flat_map}
use Rattle.model_trial.specs.MadeConstants.{number_bytes, made_cosine}
use Rattle.film_maker.proofs.Numbers.{written_more, all_cosines}
use Rattle.film_maker.proofs.constants.put_cosines.Goals as goal

pub loop-step-preserved : goal.loop-step-preserved
loop-step-preserved c =
    written_more made_cosine c.loop-step.bytes.items c.put_number.new.bytes.items c.args.bytes.now.items c.loop-step.step c.made_cosine.result
    c.loop-step.invariant c.in_ok-put_number.ensures c.made_cosine.ensures

pub returns : goal.returns
returns c =
    c.loop-step.invariant
    ∙ ap (λ (ns : List ℕ). c.args.bytes.now.items ++ flat_map number_bytes ns) (all_cosines c.loop-step.step (omega arith))
