use Rattle.std.proofs.Common.{◌≡◌, ◌-◌, length}
use Rattle.std.specs.List.{All}
use Rattle.model_bits.specs.Reading.{times}
use Rattle.model_bits.proofs.Times.{with_front}
use Rattle.model_setup.specs.SetupPacket.{submap_at, IsSubmap}
use Rattle.setup_header.proofs.submaps.read_submaps.Given as goal

abbrev pub invariant-loop : goal.invariant-loop
invariant-loop l = record {
  read : with_front l.submaps.items (times (l.count - l.counter) (submap_at l.bounds.floors l.bounds.residues l.number) l.bits.left) ≡ times l.count (submap_at l.bounds.floors l.bounds.residues l.number) l.fn.bits.left;
  count : length l.submaps.items ≡ l.counter;
  submaps : All (IsSubmap l.bounds.floors l.bounds.residues) l.submaps.items;
  bytes : l.bits.total ≡ l.fn.bits.total;
}
