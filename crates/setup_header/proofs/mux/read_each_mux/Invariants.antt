use Rattle.std.proofs.Common.{◌≡◌, ◌-◌, ◌<◌, length}
use Rattle.std.specs.List.{All}
use Rattle.model_bits.specs.Reading.{times}
use Rattle.model_bits.proofs.Times.{with_front}
use Rattle.model_setup.specs.SetupPacket.{number_below_at}
use Rattle.setup_header.proofs.mux.read_each_mux.Given as goal

abbrev pub invariant-loop : goal.invariant-loop
invariant-loop l = record {
  read : with_front l.mux.items (times (l.channels - l.counter) (number_below_at 4 l.submaps l.fault) l.bits.left) ≡ times l.channels (number_below_at 4 l.submaps l.fault) l.fn.bits.left;
  count : length l.mux.items ≡ l.counter;
  below : All (λ submap. submap < l.submaps) l.mux.items;
  bytes : l.bits.total ≡ l.fn.bits.total;
}
