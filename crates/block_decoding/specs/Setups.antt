-- What a packet is decoded by.
use Rattle.std.specs.Prelude.{ℕ, ◌≤◌}
use Rattle.model_setup.specs.declared.setup.PacketHead.{PacketHead}
use Rattle.model_setup.specs.declared.setup.PacketHead.TheVariants as heads
use Rattle.model_setup.specs.HeaderPackets.{IsBlockSize}
use Rattle.model_setup.specs.SetupPacket.{SetupFields, IsSetup}
use Rattle.model_block.specs.declared.sizes.BlockSizes.{BlockSizes}

-- the setup of a link of some number of channels
pub record IsOfLink (setup : SetupFields) : Type 0 where
  pub channels : ℕ
  pub whole : IsSetup channels setup

-- the sizes of the blocks of a link
pub record AreSizes (sizes : BlockSizes) : Type 0 where
  pub short : IsBlockSize sizes.short
  pub long : IsBlockSize sizes.long
  pub in_order : sizes.short ≤ sizes.long

-- the head of a packet that decodes to a block
abbrev pub IsBlockHead : PacketHead → Type 0
IsBlockHead heads.Skip = ⊥
IsBlockHead heads.Bad = ⊥
IsBlockHead (heads.Block mode previous next) = Unit {0}
