use Rattle.std.proofs.Common.{◌≡◌, ℕ, ◌+◌, length, slice_get, Some}
use Rattle.half_sums.specs.declared.block.Block.{Block}
use Rattle.half_sums.specs.Blocks.{IsBlockFor}
use Rattle.half_sums.proofs.transforms.Transforms.new.Given as goal

abbrev pub invariant-loop-levels : goal.invariant-loop-levels
invariant-loop-levels l = record {
  count : length l.blocks.items + 5 ≡ l.levels;
  each : (i : ℕ) (block : Block) → slice_get l.blocks.items i ≡ Some block → IsBlockFor (i + 5) l.cosines.items block;
}
