use Rattle.std.proofs.Common.{◌*◌, ◌%◌, ◌∙◌, ap, slice_index, arith}
use Rattle.number_transform.specs.declared.field.TheConstants.{PRIME}
use Rattle.number_transform.proofs.Filling.{set_more, set_rest, residues_of}
use Rattle.number_transform.proofs.multiplier.scale.Goals as goal

pub loop-value-preserved : goal.loop-value-preserved
loop-value-preserved c =
    let i = c.loop-value.value-index in
    let a = slice_index c.args.values.now in
    let z = c.args.factor in
    record {
      done = set_more (λ k. (a k * z) % PRIME) c.loop-value.values i c.multiply.result (omega arith)
          (c.multiply.ensures.value ∙ ap (λ x. (x * z) % PRIME) (c.loop-value.invariant.rest i (omega arith)))
          c.loop-value.invariant.done;
      rest = set_rest a c.loop-value.values i c.multiply.result c.loop-value.invariant.rest;
    }

pub returns-clause-small : goal.returns-clause-small
returns-clause-small c =
    residues_of (λ k. slice_index c.args.values.now k * c.args.factor) c.loop-value.values
    (λ k h. c.loop-value.invariant.done k (omega arith))
