use Rattle.std.proofs.Common.{◌≡◌, ◌-◌, length}
use Rattle.model_bits.specs.Reading.{times, with_front}
use Rattle.model_setup.specs.ResidueReading.{pass_flags_at}
use Rattle.residues.proofs.residue.read_all_flags.Given as goal

abbrev pub invariant-loop : goal.invariant-loop
invariant-loop l = record {
  read : with_front l.all.items (times (l.classes - l.counter) pass_flags_at l.bits.left) ≡ times l.classes pass_flags_at l.fn.bits.left;
  bytes : l.bits.total ≡ l.fn.bits.total;
  count : length l.all.items ≡ l.counter;
}
