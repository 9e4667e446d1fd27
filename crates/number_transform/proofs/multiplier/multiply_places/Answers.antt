use Rattle.std.proofs.Common.{◌<◌, ◌*◌, ◌%◌, ◌∙◌, ap, subst, sym, ℕ, slice_index, get_or, arith}
use Rattle.number_transform.specs.declared.field.TheConstants.{PRIME}
use Rattle.number_transform.proofs.Filling.{set_more, set_rest}
use Rattle.number_transform.proofs.Halves.{products_by_place, products_small}
use Rattle.number_transform.proofs.multiplier.multiply_places.Goals as goal

pub loop-k-preserved : goal.loop-k-preserved
loop-k-preserved c =
    let i = c.loop-k.k in
    let a = slice_index c.args.values.now in
    let b = slice_index c.args.factors.now in
    record {
      done = set_more (λ k. (a k * b k) % PRIME) c.loop-k.values i c.multiply.result (omega arith)
          (c.multiply.ensures.value ∙ ap (λ x. (x * b i) % PRIME) (c.loop-k.invariant.rest i (omega arith)))
          c.loop-k.invariant.done;
      rest = set_rest a c.loop-k.values i c.multiply.result c.loop-k.invariant.rest;
    }

pub returns-clause-products : goal.returns-clause-products
returns-clause-products c = products_by_place c.args.values.now c.args.factors.now c.loop-k.values (omega arith) (omega arith) (λ k h. c.loop-k.invariant.done k (omega arith))

pub returns-clause-small : goal.returns-clause-small
returns-clause-small c = subst (λ l. (k : ℕ) → get_or l k 0 < PRIME) (sym (returns-clause-products c)) (products_small c.args.values.now c.args.factors.now)
