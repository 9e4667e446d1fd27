use Rattle.std.proofs.Common.{◌≡◌, length, drop, IfSome}
use Rattle.std.specs.List.{All}
use Rattle.model_bits.specs.Reading.{each, with_front}
use Rattle.model_setup.specs.ResidueSetup.{Serves, has_values}
use Rattle.model_setup.specs.ResidueReading.{cascade_at}
use Rattle.residues.proofs.residue.read_each_cascade.Given as goal

abbrev pub invariant-loop-flags : goal.invariant-loop-flags
invariant-loop-flags l = record {
  read : with_front l.cascades.items (each (cascade_at l.books) (drop l.flags-index l.all_flags) l.bits.left) ≡ each (cascade_at l.books) l.all_flags l.fn.bits.left;
  bytes : l.bits.total ≡ l.fn.bits.total;
  count : length l.cascades.items ≡ l.flags-index;
  passes : All (λ cascade. length cascade ≡ 8) l.cascades.items;
  serves : All (All (λ named. IfSome named (Serves has_values l.books))) l.cascades.items;
}
