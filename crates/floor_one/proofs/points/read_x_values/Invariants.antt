use Rattle.std.proofs.Common.{◌≡◌, ◌-◌, ◌+◌, ◌^◌, [], ◌∷◌, length, slice_index}
use Rattle.model_bits.specs.Reading.{times}
use Rattle.model_bits.proofs.Times.{with_front}
use Rattle.model_setup.specs.FloorReading.{floor_field}
use Rattle.floor_one.specs.Points.{AreEnds}
use Rattle.floor_one.proofs.points.read_x_values.Given as goal

abbrev pub invariant-loop : goal.invariant-loop
invariant-loop l = record {
  read : with_front l.x_values.items (times (l.count - l.counter) (floor_field l.range_bits) l.bits.left) ≡ with_front (0 ∷ 2 ^ l.range_bits ∷ []) (times l.count (floor_field l.range_bits) l.fn.bits.left);
  count : length l.x_values.items ≡ l.counter + 2;
  ends : AreEnds l.x_values.items;
  end : slice_index l.x_values.items 1 ≡ 2 ^ l.range_bits;
  bytes : l.bits.total ≡ l.fn.bits.total;
}
