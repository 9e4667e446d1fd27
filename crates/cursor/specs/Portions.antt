-- The portions of spans whose frames a read gives.
use Rattle.std.specs.Prelude.{ℕ, ◌+◌, ◌-◌, ◌*◌, ◌^◌, ◌<◌, ◌≤◌, min, ◌&&◌, ◌==◌, nat_lt, if◌then◌else◌, List, [], ◌∷◌, ◌++◌, length, map, drop, ◌≡◌, Option, Some, None}
use Rattle.std.specs.List.{flat_map, range_with_len, slice_get}
use Rattle.model_line.specs.declared.item.Half.TheVariants as halves
use Rattle.model_line.specs.declared.item.Span.{Span}
use Rattle.model_line.specs.declared.item.Item.{Item}
use Rattle.model_line.specs.declared.item.Item.TheVariants as variants
use Rattle.model_line.specs.Origins.{overlap_len}
use Rattle.model_line.specs.Blocks.{Values, len_of, overlap_frame, Frame, IsHalfBlock}
use Rattle.model_cursor.specs.declared.need.Need.{Need}
use Rattle.model_cursor.specs.Positions.{Position}
use Rattle.cursor.specs.declared.portions.Portion.{Portion}

-- ---- which portions

-- of a span without its first frames the first so many
abbrev pub cut : ℕ → ℕ → Span → Portion
cut skip count s =
    let from = s.from + skip in
    record { block = s.block; from = from; to = from + min count (s.to - from) }

-- the portions that give so many frames of a link with whose spans items begin
unfoldable pub portions_on : ℕ → ℕ → List Item → List Portion
portions_on link count [] = []
portions_on link count (variants.Gap other kind ∷ xs) = []
portions_on link count (variants.Span s ∷ xs) =
    if (s.link == link) && nat_lt 0 count
    then cut 0 count s ∷ portions_on link (count - (s.to - s.from)) xs
    else []

-- the portions that give so many frames from a span on, without its first ones
abbrev pub portions_from : ℕ → ℕ → Span → List Item → List Portion
portions_from skip count s xs =
    cut skip count s ∷ portions_on s.link (count - (s.to - (s.from + skip))) xs

-- and from a position on, which is in this span
abbrev pub portions_at : List Item → Position → Span → ℕ → List Portion
portions_at items p s count = portions_from (p.told - s.start) count s (drop (p.item + 1) items)

-- a gap is there
abbrev pub IsGap : Option Item → Type 0
IsGap None = ⊥
IsGap (Some (variants.Gap link kind)) = Unit {0}
IsGap (Some (variants.Span s)) = ⊥

-- the same, where this item is there: at a gap and at the end there are none
abbrev pub portions_here : Option Item → List Item → Position → ℕ → List Portion
portions_here None items p count = []
portions_here (Some (variants.Gap link kind)) items p count = []
portions_here (Some (variants.Span s)) items p count =
    if nat_lt 0 count then portions_at items p s count else []

-- the portions that give so many frames from a position on, as far as the run there goes
abbrev pub run_portions : List Item → Position → ℕ → List Portion
run_portions items p count = portions_here (slice_get items p.item) items p count

-- ---- what they need, and what they give

abbrev pub portion_needs : Portion → List Need
portion_needs p =
    record { block = p.block; half = halves.Right }
    ∷ record { block = p.block + 1; half = halves.Left }
    ∷ []

abbrev pub needs_of : List Portion → List Need
needs_of portions = flat_map portion_needs portions

-- a number of 32 bits counts the blocks up to the second of a portion
abbrev pub HasNext : Portion → Type 0
HasNext p = p.block + 1 < 2 ^ 32

-- the frames of a portion, between these halves
abbrev pub portion_frames : Values → Values → Portion → List Frame
portion_frames right left p = map (overlap_frame right left) (range_with_len p.from (p.to - p.from))

-- a frame has a value for each of so many channels
abbrev pub HasChannels : ℕ → Frame → Type 0
HasChannels channels f = length f ≡ channels

-- the frames of portions, each between the next two halves
unfoldable pub frames_from : List Portion → List Values → List Frame
frames_from [] given = []
frames_from (p ∷ portions) [] = []
frames_from (p ∷ portions) (right ∷ []) = []
frames_from (p ∷ portions) (right ∷ left ∷ given) =
    portion_frames right left p ++ frames_from portions given

-- a portion is among the frames that these halves of blocks give
pub record FitsHalves (first second : Values) (p : Portion) : Type 0 where
  pub right : IsHalfBlock (length second) first
  pub left : IsHalfBlock (length second) second
  pub order : p.from ≤ p.to
  pub within : p.to ≤ overlap_len (2 * len_of first) (2 * len_of second)

-- each portion is so, with the next two halves
unfoldable pub FitHalves : List Portion → List Values → Type 0
FitHalves [] given = Unit {0}
FitHalves (p ∷ portions) [] = ⊥
FitHalves (p ∷ portions) (right ∷ []) = ⊥
FitHalves (p ∷ portions) (right ∷ left ∷ given) =
    FitsHalves right left p × FitHalves portions given
