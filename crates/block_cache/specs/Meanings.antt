-- What a maker of blocks means.
use Rattle.std.specs.Prelude.{ℕ}
use Rattle.model_setup.specs.SetupPacket.{SetupFields}
use Rattle.film_blocks.specs.KeyedBlocks.{KeyedBlock}

-- the link and the value of each block, and the setup of each link; numbers from 0
pub record Meaning : Type 0 where
  pub blocks : ℕ
  pub links : ℕ
  pub link : ℕ → ℕ
  pub setup : ℕ → SetupFields
  pub block : ℕ → KeyedBlock
