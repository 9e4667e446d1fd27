-- What an index of a film's line says.
use Rattle.std.specs.Prelude.{◌≡◌, ℕ, ◌+◌, ◌<◌, List, [], ◌∷◌, map, All}
use Rattle.std.specs.List.{AllPairs}
use Rattle.model_line.specs.declared.row.LinkRows.{LinkRows}
use Rattle.model_line.specs.declared.item.Item.{Item}
use Rattle.model_line.specs.declared.item.Item.TheVariants as variants
use Rattle.model_line.specs.declared.item.LinkFacts.{LinkFacts}
use Rattle.model_line.specs.Decode.{LinkEntry, frame_count, gap_count}
use Rattle.model_line.specs.Lines.{link_line}
use Rattle.model_line.specs.Origins.{frame_numbers, entries_of, number_behind, line_origins, listed, HaveStarts, HasFrame, IsBefore}

-- an index: its items, the facts of each link, and the number of blocks
pub record Indexed : Type 0 where
  pub items : List Item
  pub links : List LinkFacts
  pub blocks : ℕ

-- the facts of the link of this number
unfoldable pub facts_of : ℕ → LinkRows → LinkFacts
facts_of number link = record {
  channels = link.channels;
  rate = link.rate;
  short = link.short;
  long = link.long;
  frames = frame_count (link_line number frame_numbers (entries_of link));
  gaps = gap_count (link_line number frame_numbers (entries_of link));
}

-- and of the links from that number on
unfoldable pub facts_from : ℕ → List LinkRows → List LinkFacts
facts_from number [] = []
facts_from number (link ∷ links) = facts_of number link ∷ facts_from (number + 1) links

-- the number of the next block after all links
unfoldable pub all_behind : ℕ → List (List (LinkEntry ℕ)) → ℕ
all_behind n [] = n
all_behind n (es ∷ links) = all_behind (number_behind n es) links

-- both blocks of a span are among so many
abbrev pub IsWithin : ℕ → Item → Type 0
IsWithin blocks (variants.Span s) = s.block + 1 < blocks
IsWithin blocks (variants.Gap link kind) = Unit {0}

-- The index of a film: its items list the origins of the line, each span with its start. Each span
-- has a frame, and its block is later than those of the spans before it, so that no other items do.
pub record Indexes (links : List LinkRows) (index : Indexed) : Type 0 where
  pub origins : listed index.items ≡ line_origins (map entries_of links)
  pub starts : HaveStarts 0 index.items
  pub frames : All HasFrame index.items
  pub rising : AllPairs IsBefore index.items
  pub within : All (IsWithin index.blocks) index.items
  pub facts : index.links ≡ facts_from 0 links
  pub count : index.blocks ≡ all_behind 0 (map entries_of links)
