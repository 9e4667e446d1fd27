-- The halves of a film's blocks, and the line that they give.
use Rattle.std.specs.Prelude.{◌≡◌, ℕ, ◌+◌, ◌*◌, ◌<◌, ◌≤◌, List, length, map, All, slice_get}
use Rattle.std.specs.Option.{option_map_or}
use Rattle.model_setup.specs.HeaderPackets.{IsBlockSize}
use Rattle.model_synthesis.specs.Transform.{IsBlockValue}
use Rattle.model_line.specs.declared.item.Half.TheVariants as halves
use Rattle.model_line.specs.declared.item.Span.{Span}
use Rattle.model_line.specs.declared.item.Item.{Item}
use Rattle.model_line.specs.declared.item.Item.TheVariants as variants
use Rattle.model_line.specs.declared.item.LinkFacts.{LinkFacts}
use Rattle.model_line.specs.Decode.{LineItem}
use Rattle.model_line.specs.Origins.{overlap_len, line_of}
use Rattle.model_line.specs.Blocks.{Values, len_of, overlap, Frame, IsHalfBlock}
use Rattle.model_line.specs.Index.{Indexed}
use Rattle.model_cursor.specs.declared.need.Need.{Need}

-- what each half of a film's blocks is
abbrev pub Source : Type 0
Source = Need → Values

abbrev pub right_of : Source → ℕ → Values
right_of source block = source (record { block = block; half = halves.Right })

abbrev pub left_of : Source → ℕ → Values
left_of source block = source (record { block = block; half = halves.Left })

-- the line that items give with these halves
abbrev pub line_from : Source → List Item → List (LineItem Frame)
line_from source items = line_of overlap (right_of source) (left_of source) items

-- ---- halves that suit an index

-- how many channels the link of this number has
abbrev pub channels_in : List LinkFacts → ℕ → ℕ
channels_in links link =
    option_map_or (λ (facts : LinkFacts). facts.channels) (slice_get links link) 0

-- a span's two halves are of blocks of its link, and its frames are among those that they give
pub record SpanSuits (links : List LinkFacts) (source : Source) (s : Span) : Type 0 where
  pub right : IsHalfBlock (channels_in links s.link) (right_of source s.block)
  pub left : IsHalfBlock (channels_in links s.link) (left_of source (s.block + 1))
  pub within : s.to ≤ overlap_len (2 * len_of (right_of source s.block))
      (2 * len_of (left_of source (s.block + 1)))

abbrev pub ItemSuits : List LinkFacts → Source → Item → Type 0
ItemSuits links source (variants.Span s) = SpanSuits links source s
ItemSuits links source (variants.Gap link kind) = Unit {0}

-- the halves are of such blocks as the index was made of
abbrev pub Suits : Indexed → Source → Type 0
Suits index source = All (ItemSuits index.links source) index.items

-- these are the halves that are needed, in order
pub record AreHalvesOf (index : Indexed) (needs : List Need) (given : List Values)
    (source : Source) : Type 0 where
  pub halves : given ≡ map source needs
  pub suits : Suits index source

-- of some blocks
abbrev pub AreHalves : Indexed → List Need → List Values → Type 0
AreHalves index needs given = (source : Source) × AreHalvesOf index needs given source
