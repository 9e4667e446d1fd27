use Rattle.std.proofs.Common.{◌≡◌, ℕ, ◌<◌, length, take, drop, get_or, None, IfSome}
use Rattle.std.specs.List.{range_with_len}
use Rattle.model_bits.specs.Reading.{each, with_front}
use Rattle.model_setup.specs.ResidueSetup.{Serves, has_values}
use Rattle.model_setup.specs.ResidueReading.{pass_book_at}
use Rattle.residues.proofs.residue.read_cascade.Given as goal

abbrev pub invariant-loop-pass : goal.invariant-loop-pass
invariant-loop-pass l = record {
  read : with_front (take l.pass l.cascade) (each (pass_book_at l.books l.flags) (drop l.pass (range_with_len 0 8)) l.bits.left) ≡ each (pass_book_at l.books l.flags) (range_with_len 0 8) l.fn.bits.left;
  bytes : l.bits.total ≡ l.fn.bits.total;
  count : length l.cascade ≡ 8;
  serves : (k : ℕ) → k < l.pass → IfSome (get_or l.cascade k None) (Serves has_values l.books);
}
