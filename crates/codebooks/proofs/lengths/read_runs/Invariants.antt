use Rattle.std.proofs.Common.{◌≡◌, ◌+◌, ◌-◌, ◌≤◌, ◌<◌, length}
use Rattle.std.specs.List.{All}
use Rattle.codebooks.specs.Free.{IsLengthIfUsed}
use Rattle.model_setup.specs.BookReading.{runs_at}
use Rattle.model_bits.proofs.Times.{with_front}
use Rattle.codebooks.proofs.lengths.read_runs.Given as goal

abbrev pub invariant-loop-remain : goal.invariant-loop-remain
invariant-loop-remain l = record {
  read : with_front l.lengths.items (runs_at (33 - l.len) l.len l.remain l.bits.left) ≡ runs_at (33 - l.fn.first) l.fn.first l.fn.entries l.fn.bits.left;
  bytes : l.bits.total ≡ l.fn.bits.total;
  some : 0 < l.len;
  len : l.len ≤ 33;
  count : length l.lengths.items + l.remain ≡ l.fn.entries;
  small : All IsLengthIfUsed l.lengths.items;
}

abbrev pub decreases-loop-remain : goal.decreases-loop-remain
decreases-loop-remain l = 34 - l.len
