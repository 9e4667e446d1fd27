use Rattle.std.proofs.Common.{◌≡◌, ◌<◌, length, drop}
use Rattle.std.specs.List.{All, range_with_len}
use Rattle.model_bits.specs.Reading.{each}
use Rattle.model_bits.proofs.Times.{with_front}
use Rattle.model_setup.specs.SetupPacket.{mode_at, Mode}
use Rattle.setup_header.proofs.mode.read_each_mode.Given as goal

abbrev pub invariant-loop-number : goal.invariant-loop-number
invariant-loop-number l = record {
  read : with_front l.modes.items (each (mode_at l.mappings) (drop l.number (range_with_len 0 l.count)) l.bits.left) ≡ each (mode_at l.mappings) (range_with_len 0 l.count) l.fn.bits.left;
  count : length l.modes.items ≡ l.number;
  named : All (λ (mode : Mode). mode.mapping < l.mappings) l.modes.items;
  bytes : l.bits.total ≡ l.fn.bits.total;
}
