-- Positions and the cursors at them.
use Rattle.std.proofs.Common.{◌≡◌, ℕ, suc, ◌+◌, ◌≤◌, ◌<◌, max, List, [], length, refl, ap, sym, ◌∙◌, arith, get_or, Option, Some, None, MatchOption}
use Rattle.std.specs.List.{slice_get}
use Rattle.std.proofs.lemmas.Option.{slice_get_read}
use Rattle.model_line.specs.declared.item.Item.{Item}
use Rattle.model_line.specs.Decode.{frame_count, gap_count}
use Rattle.model_line.specs.Origins.{origins_of, listed}
use Rattle.model_cursor.specs.Cursors.{CursorState, start, place_after, placed}
use Rattle.model_cursor.specs.Positions.{Position, IsPosition, start_of, gaps_before, state_in}
use Rattle.model_cursor.proofs.Counting.{place_in_item, no_gap, start_of-next, gaps_before-next}

-- ---- positions

abbrev Before : ℕ → ℕ → Option Item → Type 0
Before told begun x = MatchOption x (told ≡ begun) (λ (y : Item). told < begun + max 1 (frame_count (origins_of y)))

before_any : (told begun : ℕ) (x : Option Item) → told ≡ begun → Before told begun x
before_any told begun None e = e
before_any told begun (Some x) e = omega arith

-- at the beginning of an item, or behind all of them
pub at_start : (items : List Item) (p : Position) → p.told ≡ start_of items p.item → IsPosition items p
at_start items p e = record {
  from = omega arith;
  before = before_any p.told (start_of items p.item) (slice_get items p.item) e;
}

-- among the frames of an item
pub inside : (items : List Item) (p : Position) (x : Item) → p.item < length items → get_or items p.item x ≡ x → start_of items p.item ≤ p.told → p.told < start_of items p.item + frame_count (origins_of x) → IsPosition items p
inside items p x h e above below =
    let less : p.told < start_of items p.item + max 1 (frame_count (origins_of x)) = omega arith in
    record {
      from = above;
      before = rw (slice_get_read items (length items) p.item x refl h (sym e)) less;
    }

-- ---- the cursors at them

pub state_at_0 : (items : List Item) → state_in items (record { item = 0; told = 0; patch = [] }) ≡ start
unfolding listed gap_count
state_at_0 items = refl

pub position_at_0 : (items : List Item) → IsPosition items (record { item = 0; told = 0; patch = [] })
unfolding listed frame_count
position_at_0 items = at_start items (record { item = 0; told = 0; patch = [] }) refl

-- the item of the last of so many frames has more
pub placed_inside : (items : List Item) (i frames : ℕ) (x : Item) → i < length items → get_or items i x ≡ x → start_of items i < frames → frames < start_of items i + frame_count (origins_of x)
    → (state_in items (record { item = i; told = frames; patch = [] }) ≡ placed (listed items) frames) × IsPosition items (record { item = i; told = frames; patch = [] })
placed_inside items i frames x h e above below = (
  ap (λ (n : ℕ). let s : CursorState = record { place = n; patch = [] } in s) (sym (place_in_item items i frames x h e above (omega arith))),
  inside items (record { item = i; told = frames; patch = [] }) x h e (omega arith) below,
)

-- it ends with them
pub placed_behind : (items : List Item) (i frames : ℕ) (x : Item) → i < length items → get_or items i x ≡ x → start_of items i < frames → frames ≡ start_of items (i + 1)
    → (state_in items (record { item = i + 1; told = frames; patch = [] }) ≡ placed (listed items) frames) × IsPosition items (record { item = i + 1; told = frames; patch = [] })
placed_behind items i frames x h e above same =
    let one : i + 1 ≡ suc i = omega arith in
    let ends : start_of items (i + 1) ≡ start_of items i + frame_count (origins_of x) = ap (λ k. start_of items k) one ∙ start_of-next items i x h e in
    let gaps : gaps_before items (i + 1) ≡ gaps_before items i + gap_count (origins_of x) = ap (λ k. gaps_before items k) one ∙ gaps_before-next items i x h e in
    let none : gap_count (origins_of x) ≡ 0 = no_gap x (omega arith) in
    let place : frames + gaps_before items (i + 1) ≡ place_after frames (listed items) = omega (arith, place_in_item items i frames x h e above (omega arith)) in (
      ap (λ (n : ℕ). let s : CursorState = record { place = n; patch = [] } in s) place,
      at_start items (record { item = i + 1; told = frames; patch = [] }) same,
    )
