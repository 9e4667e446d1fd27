use Rattle.std.proofs.Common.{[], ◌∷◌, ◌∙◌, length-append, arith}
use Rattle.std.proofs.lemmas.List.{get_or_append_left}
use Rattle.model_bits.proofs.Times.{times_goes_on}
use Rattle.model_setup.specs.FloorReading.{floor_field}
use Rattle.floor_one.proofs.Lines.{ends_push}
use Rattle.floor_one.proofs.points.read_x_values.Goals as goal

pub loop-preserved : goal.loop-preserved
loop-preserved c =
    let m = floor_field c.args.range_bits in
    let xs = c.loop.x_values.items in
    let x = c.in_ok-x.x in
    let n = c.loop.invariant.count in
    let end = c.loop.invariant.end in
    let below = c.in_ok-x.ensures.below in
    rw c.push-in-loop.ensures.items (record {
      read = times_goes_on m xs c.args.count c.loop.counter c.loop.bits.left _ c.loop.invariant.read x c.read_field.new.bits.left c.loop-test.true c.in_ok-x.ensures.field;
      count = simp length-append (omega arith);
      ends = ends_push xs x c.loop.invariant.ends (omega arith) (omega arith);
      end = get_or_append_left xs (x ∷ []) 0 1 (omega arith) ∙ end;
      bytes = c.in_ok-x.ensures.bytes ∙ c.loop.invariant.bytes;
    })
