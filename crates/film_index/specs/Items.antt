-- What holds of the items of every index.
use Rattle.std.specs.Prelude.{ℕ, ◌<◌, ◌^◌, length, All}
use Rattle.std.specs.List.{AllPairs}
use Rattle.model_line.specs.declared.item.Item.{Item}
use Rattle.model_line.specs.declared.item.Item.TheVariants as variants
use Rattle.model_line.specs.Decode.{frame_count}
use Rattle.model_line.specs.Origins.{listed, HaveStarts, HasFrame, IsBefore}
use Rattle.model_line.specs.Index.{Indexed, IsWithin}

-- an item's link is one of so many
abbrev pub HasLink : ℕ → Item → Type 0
HasLink links (variants.Span s) = s.link < links
HasLink links (variants.Gap link kind) = link < links

-- Each span has its start and a frame, its block is later than those of the spans before it, and
-- both of its blocks are among those of the film. Each item's link is one of the film's. A number
-- of 64 bits counts all frames, and one of 32 bits all blocks.
pub record AreIndexItems (index : Indexed) : Type 0 where
  pub starts : HaveStarts 0 index.items
  pub frames : All HasFrame index.items
  pub rising : AllPairs IsBefore index.items
  pub within : All (IsWithin index.blocks) index.items
  pub linked : All (HasLink (length index.links)) index.items
  pub fits : frame_count (listed index.items) < 2 ^ 64
  pub few : index.blocks < 2 ^ 32
