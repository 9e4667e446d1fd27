use Rattle.std.proofs.Common.{◌≡◌, ◌-◌, length}
use Rattle.std.specs.List.{All}
use Rattle.model_bits.specs.Reading.{times}
use Rattle.model_bits.proofs.Times.{with_front}
use Rattle.model_setup.specs.SetupPacket.{coupling_at, IsCoupling}
use Rattle.setup_header.proofs.couplings.read_each_coupling.Given as goal

abbrev pub invariant-loop : goal.invariant-loop
invariant-loop l = record {
  read : with_front l.couplings.items (times (l.count - l.counter) (coupling_at l.channels l.fault) l.bits.left) ≡ times l.count (coupling_at l.channels l.fault) l.fn.bits.left;
  count : length l.couplings.items ≡ l.counter;
  couplings : All (IsCoupling l.channels) l.couplings.items;
  bytes : l.bits.total ≡ l.fn.bits.total;
}
