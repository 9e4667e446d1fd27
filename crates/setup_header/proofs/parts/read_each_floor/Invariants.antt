use Rattle.std.proofs.Common.{◌≡◌, length, drop}
use Rattle.std.specs.List.{All, range_with_len}
use Rattle.model_bits.specs.Reading.{each}
use Rattle.model_bits.proofs.Times.{with_front}
use Rattle.model_setup.specs.FloorSetup.{IsFloor, FloorNamesBooks}
use Rattle.model_setup.specs.SetupPacket.{numbered_floor_at}
use Rattle.setup_header.proofs.parts.read_each_floor.Given as goal

abbrev pub invariant-loop-number : goal.invariant-loop-number
invariant-loop-number l = record {
  read : with_front l.floors.items (each (numbered_floor_at l.books) (drop l.number (range_with_len 0 l.count)) l.bits.left) ≡ each (numbered_floor_at l.books) (range_with_len 0 l.count) l.fn.bits.left;
  count : length l.floors.items ≡ l.number;
  floors : All (IsFloor) l.floors.items;
  books : All (FloorNamesBooks l.books) l.floors.items;
  bytes : l.bits.total ≡ l.fn.bits.total;
}
