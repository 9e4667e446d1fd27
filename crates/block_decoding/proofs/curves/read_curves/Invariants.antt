use Rattle.std.proofs.Common.{◌≡◌, length, drop}
use Rattle.std.specs.Prelude.{IfSome}
use Rattle.std.specs.List.{All}
use Rattle.block_decoding.proofs.CurveSteps.{behind, curves_from}
use Rattle.block_decoding.proofs.curves.read_curves.Given as goal

abbrev pub invariant-loop-number : goal.invariant-loop-number
invariant-loop-number l = record {
  read : behind l.curves.items (curves_from l.setup l.mapping l.size (drop l.number-index l.mapping.mux) l.bits.left) ≡ curves_from l.setup l.mapping l.size l.mapping.mux l.fn.bits.left;
  count : length l.curves.items ≡ l.number-index;
  sizes : All (λ curve. IfSome curve (λ bins. length bins ≡ l.size)) l.curves.items;
  bytes : l.bits.total ≡ l.fn.bits.total;
}
