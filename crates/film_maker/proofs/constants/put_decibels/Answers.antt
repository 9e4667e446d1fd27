use Rattle.std.proofs.Common.{◌++◌, ℕ, List, ap, ◌∙◌, arith}
use Rattle.std.specs.List.{flat_map}
use Rattle.model_trial.specs.MadeConstants.{number_bytes, made_decibel}
use Rattle.film_maker.proofs.Numbers.{written_more, all_decibels}
use Rattle.film_maker.proofs.constants.put_decibels.Goals as goal

pub loop-height-preserved : goal.loop-height-preserved
loop-height-preserved c =
    written_more made_decibel c.loop-height.bytes.items c.put_number.new.bytes.items c.args.bytes.now.items c.loop-height.height c.made_decibel.result
    c.loop-height.invariant c.in_ok-put_number.ensures c.made_decibel.ensures

pub returns : goal.returns
returns c =
    c.loop-height.invariant
    ∙ ap (λ (ns : List ℕ). c.args.bytes.now.items ++ flat_map number_bytes ns) (all_decibels c.loop-height.height (omega arith))
