-- What is laid out for all sizes of blocks.
use Rattle.std.specs.Prelude.{ℕ, ◌≡◌, ◌+◌, List, length, slice_get, Some}
use Rattle.half_sums.specs.declared.block.Block.{Block}
use Rattle.half_sums.specs.Blocks.{AreCosines, IsBlockFor}

-- the cosines, and a block for each size, of 2 ^ 5 to 2 ^ 12 bins
pub record IsLaidOut (cosines : List ℕ) (blocks : List Block) : Type 0 where
  pub right : AreCosines cosines
  pub count : length blocks ≡ 8
  pub each :
      (i : ℕ) (block : Block) → slice_get blocks i ≡ Some block → IsBlockFor (i + 5) cosines block
