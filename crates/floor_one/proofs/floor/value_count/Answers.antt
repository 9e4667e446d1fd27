use Rattle.std.proofs.Common.{◌≡◌, ◌<◌, ◌≤◌, length, ap, ◌∙◌, arith}
use Rattle.std.proofs.lemmas.List.Sums.{sum_by_more}
use Rattle.model_setup.specs.FloorSetup.{FloorClass, dimensions_of}
use Rattle.floor_one.proofs.Counts.{dimensions_at, dimensions_few}
use Rattle.floor_one.proofs.floor.value_count.Goals as goal

pub loop-number-preserved : goal.loop-number-preserved
loop-number-preserved c =
    let classes = c.args.classes.now in
    let at = c.index-classes-from in
    let named = c.requires.named c.loop-number.number-index 0 c.loop-number-test.true in
    let within : c.from.result < length classes = rw c.from.ensures named in
    let value : c.from-count.result ≡ at.result.dimensions = c.from-count.ensures ∙ ap (λ (class : FloorClass). class.dimensions) c.class.view_is in
    let few : at.result.dimensions ≤ 8 = dimensions_few classes c.from.result at.result c.requires.classes within at.is in
    let more = sum_by_more (dimensions_of classes) c.args.partitions.now c.loop-number.number-index 0 c.loop-number-test.true in
    let all = c.loop-number.invariant.all in
    let small = c.loop-number.invariant.small in
    let next = dimensions_at classes c.from.result at.result within at.is in
    record {
      all = rw (more, ← c.from.ensures) (omega (arith, all, next, value));
      small = omega arith;
    }
