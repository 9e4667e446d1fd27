-- Cursors of an index, and those behind some frames or a gap.
use Rattle.std.proofs.Common.{◌≡◌, ℕ, zero, suc, ◌+◌, ◌-◌, ◌≤◌, ◌<◌, max, inl, inr, Bool, true, false, nat_eq, cond, List, [], ◌∷◌, ◌++◌, length, take, drop, refl, ap, sym, ◌∙◌, arith, Option, Some, None, MatchOption, length-append, length-drop, get_or}
use Rattle.std.specs.List.{All, slice_get}
use Rattle.std.proofs.lemmas.Bool.{cases_lt, eqb-true}
use Rattle.std.proofs.lemmas.Option.{slice_get_within, get_or_from_slice_get}
use Rattle.std.proofs.lemmas.List.{take-append-drop, drop-drop, drop_all}
use Rattle.std.proofs.lemmas.List.Elements.{All-nil, All-drop}
use Rattle.model_line.specs.declared.row.GapKind.{GapKind}
use Rattle.model_line.specs.declared.item.Item.{Item}
use Rattle.model_line.specs.declared.item.Item.TheVariants as variants
use Rattle.model_line.specs.Decode.{LineItem, frame, gap, frame_count, gap_count}
use Rattle.model_line.specs.Origins.{Origin, origins_of, listed}
use Rattle.model_line.specs.Index.{Indexed}
use Rattle.model_line.proofs.Counts.{frame_count-append}
use Rattle.model_line.specs.Blocks.{Frame}
use Rattle.model_cursor.specs.Runs.{frames_of_link, run, run_at}
use Rattle.model_cursor.specs.Cursors.{CursorState, IsCursor, passed, place_after}
use Rattle.model_cursor.specs.Positions.{Position, IsPosition, IsCursorIn, start_of, gaps_before, state_in}
use Rattle.model_cursor.specs.Sources.{channels_in}
use Rattle.model_cursor.specs.Splices.{link_of_first, link_at}
use Rattle.model_cursor.proofs.Counting.{length-counts, listed-append, start_of-next, gaps_before-next}
use Rattle.model_cursor.proofs.Standing.{at_start, position_at_0}
use Rattle.model_cursor.proofs.RunLaws.{run-drop, run_within}
use Rattle.cursor.specs.Portions.{IsGap, HasChannels}
use Rattle.cursor.proofs.Items.{told_is}
use Rattle.cursor.proofs.ReadFrames.{place_behind, run_counted}
use Rattle.cursor.proofs.CursorRuns.{place_of, run_at_gap}

-- ---- positions, whatever their patches

pub with_patch : (items : List Item) (p : Position) (patch : List Frame) → IsPosition items p → IsPosition items (record p { patch = patch })
with_patch items p patch is = record { from = is.from; before = is.before }

front_within : (items : List Item) (i k : ℕ) → MatchOption (slice_get items i) (k ≡ 0) (λ (x : Item). k < max 1 (frame_count (origins_of x))) → k ≤ length (listed (drop i items))
unfolding listed frame_count
front_within [] zero k h = omega arith
front_within [] (suc i) k h = omega arith
front_within (x ∷ items) zero k h = in_item x h
  where
    in_item : (y : Item) → k < max 1 (frame_count (origins_of y)) → k ≤ length (origins_of y ++ listed items)
    in_item (variants.Gap link kind) less = omega arith
    in_item (variants.Span s) less = let xs : List (LineItem Origin) = origins_of (variants.Span s) in omega (arith, less, length-counts xs, length-append xs (listed items))
front_within (x ∷ items) (suc i) k h = front_within items i k h

shifted : (told begun : ℕ) (x : Option Item) → begun ≤ told → MatchOption x (told ≡ begun) (λ (y : Item). told < begun + max 1 (frame_count (origins_of y))) → MatchOption x (told - begun ≡ 0) (λ (y : Item). told - begun < max 1 (frame_count (origins_of y)))
shifted told begun None le h = omega arith
shifted told begun (Some y) le h = omega arith

-- it is a place of the line
place_within : (items : List Item) (p : Position) → IsPosition items p → p.told + gaps_before items p.item ≤ length (listed items)
place_within items p is =
    let front : List (LineItem Origin) = listed (take p.item items) in
    let back : List (LineItem Origin) = listed (drop p.item items) in
    let from : start_of items p.item ≤ p.told = is.from in
    let within = front_within items p.item (p.told - start_of items p.item) (shifted p.told (start_of items p.item) (slice_get items p.item) is.from is.before) in
    let whole : length (listed items) ≡ length front + length back = ap (λ (xs : List Item). length (listed xs)) (sym (take-append-drop p.item items)) ∙ ap (λ (xs : List (LineItem Origin)). length xs) (listed-append (take p.item items) (drop p.item items)) ∙ length-append front back in
    omega (arith, length-counts front, within, whole)

-- ---- cursors without a patch

no_patch_in : (index : Indexed) (p : Position) (patch : List Frame) → patch ≡ [] → IsPosition index.items (record p { patch = patch }) → IsCursorIn index (record p { patch = patch })
no_patch_in index p [] e is = record {
  position = is;
  cursor = record { place = place_within index.items (record p { patch = [] }) is; patch = omega arith };
  channels = All-nil (HasChannels (channels_in index.links (link_at (length index.links) (listed index.items) (p.told + gaps_before index.items p.item))));
}
no_patch_in index p (f ∷ patch) e is = absurd (omega (arith, ap (λ (fs : List Frame). length fs) e))

pub no_patch : (index : Indexed) (p : Position) → p.patch ≡ [] → IsPosition index.items p → IsCursorIn index p
no_patch index p e is = no_patch_in index p p.patch e is

pub starts : (index : Indexed) → IsCursorIn index (record { item = 0; told = 0; patch = [] })
starts index = no_patch index (record { item = 0; told = 0; patch = [] }) refl (position_at_0 index.items)

-- ---- cursors with another patch

pub patch_set : (index : Indexed) (p : Position) (patch : List Frame) → IsCursorIn index p → length patch ≤ length (run_at (listed index.items) (place_of index p)) → All (HasChannels (channels_in index.links (link_at (length index.links) (listed index.items) (place_of index p)))) patch
    → IsCursorIn index (record p { patch = patch })
patch_set index p patch is few each = record {
  position = with_patch index.items p patch is.position;
  cursor = record { place = is.cursor.place; patch = few };
  channels = each;
}

-- ---- behind some frames of a run

run_behind : {F : Type 0} (xs : List (LineItem F)) (place count : ℕ) → count < length (run_at xs place) → run_at xs (place + count) ≡ drop count (run_at xs place)
run_behind {F} xs place count h = ap (λ (ys : List (LineItem F)). run ys) (sym (drop-drop count place xs)) ∙ run-drop count (drop place xs) h

patch_behind : {F : Type 0} (xs : List (LineItem F)) (place count : ℕ) (patch : List Frame) → length patch ≤ length (run_at xs place) → count ≤ length (run_at xs place) → length (drop count patch) ≤ length (run_at xs (place + count))
patch_behind xs place count patch fits h = elim (cases_lt count (length (run_at xs place))) [
  | inl lt ↦ rw (run_behind xs place count lt) (omega (arith, length-drop count patch, length-drop count (run_at xs place)))
  | inr le ↦ omega (arith, length-drop count patch)
]

cursor_passed : {F : Type 0} (xs : List (LineItem F)) (s : CursorState) (count : ℕ) → IsCursor xs s → count ≤ length (run_at xs s.place) → IsCursor xs (passed count s)
cursor_passed xs s count c h =
    let on : s.place ≤ length xs = c.place in
    let run_fits = run_within (drop s.place xs) in
    record {
      place = omega (arith, length-drop s.place xs);
      patch = patch_behind xs s.place count s.patch c.patch h;
    }

link_among : {F : Type 0} (last link count : ℕ) (xs : List (LineItem F)) → count < length (frames_of_link link xs) → link_of_first last (drop count xs) ≡ link
unfolding frames_of_link
link_among last link count [] h = absurd (omega arith)
link_among {F} last link count (frame other value ∷ xs) h = of_frame (λ k less. link_among last link k xs less) count (nat_eq other link) refl h
  where
    of_frame : ((k : ℕ) → k < length (frames_of_link link xs) → link_of_first last (drop k xs) ≡ link) → (count : ℕ) (b : Bool) → nat_eq other link ≡ b → count < length (cond b (value ∷ frames_of_link link xs) []) → link_of_first last (drop count (frame other value ∷ xs)) ≡ link
    of_frame rest zero true e h = eqb-true other link e
    of_frame rest (suc count) true e h = rest count (omega arith)
    of_frame rest count false e h = absurd (omega arith)
link_among last link count (gap other kind ∷ xs) h = absurd (omega arith)

link_passed : {F : Type 0} (last count : ℕ) (xs : List (LineItem F)) → count < length (run xs) → link_of_first last (drop count xs) ≡ link_of_first last xs
unfolding run
link_passed last count [] h = absurd (omega arith)
link_passed last zero (frame link value ∷ xs) h = refl
link_passed last (suc count) (frame link value ∷ xs) h = link_among last link count xs (omega arith)
link_passed last count (gap link kind ∷ xs) h = absurd (omega arith)

-- the frames that are left of a patch are of the link that is there then
channels_passed : (index : Indexed) (p : Position) (count : ℕ) → IsCursorIn index p → count ≤ length (run_at (listed index.items) (place_of index p))
    → All (HasChannels (channels_in index.links (link_at (length index.links) (listed index.items) (place_of index p + count)))) (drop count p.patch)
channels_passed index p count is h = elim (cases_lt count (length (run_at (listed index.items) (place_of index p)))) [
  | inl lt ↦
      let last : ℕ = length index.links - 1 in
      let same : link_at (length index.links) (listed index.items) (place_of index p + count) ≡ link_at (length index.links) (listed index.items) (place_of index p) =
      ap (λ (xs : List (LineItem Origin)). link_of_first last xs) (sym (drop-drop count (place_of index p) (listed index.items))) ∙ link_passed last count (drop (place_of index p) (listed index.items)) lt in
      rw same (All-drop (HasChannels (channels_in index.links (link_at (length index.links) (listed index.items) (place_of index p)))) count p.patch is.channels)
  | inr le ↦
      let few : length p.patch ≤ length (run_at (listed index.items) (place_of index p)) = is.cursor.patch in
      let none : drop count p.patch ≡ [] = drop_all count p.patch (omega arith) in
      rw none (All-nil (HasChannels (channels_in index.links (link_at (length index.links) (listed index.items) (place_of index p + count)))))
]

moved_in : (index : Indexed) (q : Position) (s : CursorState) → IsPosition index.items q → s ≡ state_in index.items q → IsCursor (listed index.items) s → All (HasChannels (channels_in index.links (link_at (length index.links) (listed index.items) s.place))) s.patch → IsCursorIn index q
moved_in index q s is same cursor each = record {
  position = is;
  cursor = rw same at cursor;
  channels = rw same at each;
}

pub passed_in : (index : Indexed) (p q : Position) (count : ℕ) → IsCursorIn index p → count ≤ length (run_at (listed index.items) (place_of index p)) → IsPosition index.items q → passed count (state_in index.items p) ≡ state_in index.items q → IsCursorIn index q
passed_in index p q count is h at same = moved_in index q (passed count (state_in index.items p)) at same (cursor_passed (listed index.items) (state_in index.items p) count is.cursor h) (channels_passed index p count is h)

-- where a cursor is behind so many frames of the run
pub passed_to : (items : List Item) (p q : Position) (count : ℕ) → IsPosition items p → 0 < count → count ≤ length (run_at (listed items) (p.told + gaps_before items p.item)) → q.told ≡ p.told + count → q.told + gaps_before items q.item ≡ place_after q.told (listed items) → q.patch ≡ drop count p.patch
    → state_in items q ≡ passed count (state_in items p)
passed_to items p q count is some le told place patch =
    let here : ℕ = p.told + gaps_before items p.item in
    let known = told_is items p is in
    let at : place_after q.told (listed items) ≡ here + count = ap (λ (k : ℕ). place_after k (listed items)) (told ∙ ap (λ (k : ℕ). k + count) known) ∙ place_behind here count (listed items) some le in
    ap (λ (k : ℕ). let s : CursorState = record { place = k; patch = q.patch } in s) (place ∙ at)
    ∙ ap (λ (fs : List Frame). let s : CursorState = record { place = here + count; patch = fs } in s) patch

pub frames_left : (items : List Item) (p : Position) (count : ℕ) → IsPosition items p → count ≤ length (run_at (listed items) (p.told + gaps_before items p.item)) → p.told + count ≤ frame_count (listed items)
frames_left items p count is le =
    let here : ℕ = p.told + gaps_before items p.item in
    let known = told_is items p is in
    let within = run_counted (drop here (listed items)) in
    let whole : frame_count (listed items) ≡ frame_count (take here (listed items)) + frame_count (drop here (listed items)) = ap (λ (xs : List (LineItem Origin)). frame_count xs) (sym (take-append-drop here (listed items))) ∙ frame_count-append (take here (listed items)) (drop here (listed items)) in
    omega (arith, known, within, whole)

-- ---- behind a gap

at_gap : (o : Option Item) → IsGap o → (link : ℕ) × (kind : GapKind) × (o ≡ Some (variants.Gap link kind))
at_gap None is = absurd is
at_gap (Some (variants.Gap link kind)) is = (link, kind, refl)
at_gap (Some (variants.Span s)) is = absurd is

pub none_of : (fs : List Frame) → length fs ≤ 0 → fs ≡ []
none_of [] h = refl
none_of (f ∷ fs) h = absurd (omega arith)

pub record IsBehindGap (index : Indexed) (p q : Position) : Type 0 where
  pub state : state_in index.items q ≡ passed 1 (state_in index.items p)
  pub position : IsCursorIn index q

pub gap_passed : (index : Indexed) (p : Position) → IsCursorIn index p → IsGap (slice_get index.items p.item) → IsBehindGap index p (record { item = p.item + 1; told = p.told; patch = p.patch })
unfolding frame_count gap_count
gap_passed index p is at_one =
    let items : List Item = index.items in
    let found = at_gap (slice_get items p.item) at_one in
    let link : ℕ = found.0 in
    let kind : GapKind = found.1 in
    let here : slice_get items p.item ≡ Some (variants.Gap link kind) = found.2 in
    let x : Item = variants.Gap link kind in
    let lt : p.item < length items = slice_get_within items p.item x here in
    let at : get_or items p.item x ≡ x = get_or_from_slice_get items p.item x x here in
    let position : IsPosition items p = is.position in
    let above : start_of items p.item ≤ p.told = position.from in
    let before : p.told < start_of items p.item + max 1 (frame_count (origins_of x)) = rw here at position.before in
    let one : p.item + 1 ≡ suc p.item = omega arith in
    let next = start_of-next items p.item x lt at in
    let gaps = gaps_before-next items p.item x lt at in
    let few : length p.patch ≤ length (run_at (listed items) (place_of index p)) = is.cursor.patch in
    let none : p.patch ≡ [] = none_of p.patch (omega (arith, few, ap (λ (fs : List Origin). length fs) (run_at_gap index p link kind position here))) in
    let q : Position = record { item = p.item + 1; told = p.told; patch = p.patch } in
    let place : p.told + gaps_before items (p.item + 1) ≡ p.told + gaps_before items p.item + 1 = rw one (omega (arith, gaps)) in
    record {
      state =
          ap (λ (k : ℕ). let s : CursorState = record { place = k; patch = p.patch } in s) place
          ∙ ap (λ (fs : List Frame). let s : CursorState = record { place = place_of index p + 1; patch = fs } in s) (none ∙ sym (ap (λ (fs : List Frame). drop 1 fs) none));
      position = no_patch index q none (at_start items q (rw one (omega (arith, next))));
    }
