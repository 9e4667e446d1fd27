use Rattle.std.proofs.Common.{◌++◌, ℕ, List, ap, ◌∙◌, arith}
use Rattle.std.specs.List.{flat_map}
use Rattle.model_trial.specs.MadeConstants.{number_bytes, made_slope}
use Rattle.film_maker.proofs.Numbers.{written_more, all_places}
use Rattle.film_maker.proofs.constants.put_slope.Goals as goal

pub loop-place-preserved : goal.loop-place-preserved
loop-place-preserved c =
    written_more (made_slope c.args.size) c.loop-place.bytes.items c.put_number.new.bytes.items c.args.bytes.now.items c.loop-place.place c.made_slope.result
    c.loop-place.invariant c.in_ok-put_number.ensures c.made_slope.ensures

pub returns : goal.returns
returns c =
    c.loop-place.invariant
    ∙ ap (λ (ns : List ℕ). c.args.bytes.now.items ++ flat_map number_bytes ns) (all_places c.args.size c.loop-place.place (omega arith))
