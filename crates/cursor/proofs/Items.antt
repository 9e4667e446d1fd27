-- The item of a frame, by the starts of an index.
use Rattle.std.proofs.Common.{◌≡◌, ℕ, zero, suc, ◌+◌, ◌-◌, ◌≤◌, ◌<◌, ◌≢◌, max, List, [], ◌∷◌, ◌++◌, length, map, take, drop, refl, ap, sym, ◌∙◌, arith, get_or, Option, Some, None, MatchOption, inl, inr, ◌⊎◌, nat_lt, true, false}
use Rattle.std.specs.List.{slice_get, range_with_len}
use Rattle.std.proofs.lemmas.List.{take-append-drop}
use Rattle.std.proofs.lemmas.Bool.{lt-ltb, le-ltb}
use Rattle.std.proofs.Math.Seq.{take-append-add}
use Rattle.granule_seek.specs.Places.{IsLastAtMost, AreAllAbove}
use Rattle.model_line.specs.declared.item.Item.{Item}
use Rattle.model_line.specs.declared.item.Item.TheVariants as variants
use Rattle.model_line.specs.Decode.{LineItem, frame, frame_count}
use Rattle.model_line.specs.Origins.{Origin, origin, origins_of, listed, starts_from}
use Rattle.model_line.proofs.Counts.{frame_count-append, frame_count-frames}
use Rattle.model_cursor.specs.declared.reply.Sought.{Sought}
use Rattle.model_cursor.specs.declared.reply.Sought.TheVariants as answers
use Rattle.model_cursor.specs.Cursors.{CursorState, tell, placed, seek}
use Rattle.model_cursor.specs.Positions.{Position, IsPosition, start_of, gaps_before, state_in}
use Rattle.model_cursor.proofs.Counting.{length-counts, listed-append, start_of-next, starts_from-at, length-starts}
use Rattle.model_cursor.proofs.Standing.{placed_inside, placed_behind}

-- ---- starts

-- the start behind an item, or the number of all frames
pub next_start : (n : ℕ) (items : List Item) (i : ℕ) → i ≤ length items → get_or (starts_from n items) i (n + frame_count (listed items)) ≡ n + start_of items i
unfolding starts_from listed frame_count
next_start n [] zero h = refl
next_start n [] (suc i) h = refl
next_start n (x ∷ items) zero h = omega arith
next_start n (x ∷ items) (suc i) h =
    let e : n + frame_count (origins_of x ++ listed items) ≡ n + frame_count (origins_of x) + frame_count (listed items) = omega (arith, frame_count-append (origins_of x) (listed items)) in
    let rest = next_start (n + frame_count (origins_of x)) items i (omega arith) in
    ap (λ (d : ℕ). get_or (starts_from (n + frame_count (origins_of x)) items) i d) e
    ∙ omega (arith, rest, frame_count-append (origins_of x) (listed (take i items)))

pub next_at : (items : List Item) (starts : List ℕ) (total i : ℕ) → starts ≡ starts_from 0 items → total ≡ frame_count (listed items) → i ≤ length items → get_or starts i total ≡ start_of items i
next_at items starts total i e all h =
    let same : total ≡ 0 + frame_count (listed items) = omega arith in
    rw (e, same) (omega (arith, next_start 0 items i h))

past_end : (xs : List ℕ) (i d : ℕ) → length xs ≤ i → get_or xs i d ≡ d
past_end [] i d h = refl
past_end (x ∷ xs) zero d h = absurd (omega arith)
past_end (x ∷ xs) (suc i) d h = past_end xs i d (omega arith)

any_default : (xs : List ℕ) (i d e : ℕ) → i < length xs → get_or xs i d ≡ get_or xs i e
any_default [] i d e h = absurd (omega arith)
any_default (x ∷ xs) zero d e h = refl
any_default (x ∷ xs) (suc i) d e h = any_default xs i d e (omega arith)

below_or_past : (m n : ℕ) → (m < n) ⊎ (n ≤ m)
below_or_past zero zero = inr (omega arith)
below_or_past zero (suc n) = inl (omega arith)
below_or_past (suc m) zero = inr (omega arith)
below_or_past (suc m) (suc n) = elim (below_or_past m n) [ inl lt ↦ inl (omega arith) | inr le ↦ inr (omega arith) ]

-- ---- the item of a frame

pub record IsItemOf (items : List Item) (number item : ℕ) : Type 0 where
  pub within : item < length items
  pub from : start_of items item ≤ number
  pub before : number < start_of items (item + 1)

found_in : (items : List Item) (number item : ℕ) → number < frame_count (listed items) → IsLastAtMost (starts_from 0 items) number item → IsItemOf items number item
found_in items number item less last =
    let all = length-starts 0 items in
    let within : item < length (starts_from 0 items) = last.within in
    let at_most : get_or (starts_from 0 items) item 0 ≤ number = last.at_most in
    let here = starts_from-at 0 items item 0 (omega arith) in
    let next = next_start 0 items (item + 1) (omega arith) in
    let total : 0 + frame_count (listed items) ≡ frame_count (listed items) = omega arith in
    let above : number < get_or (starts_from 0 items) (item + 1) (0 + frame_count (listed items)) =
    elim (below_or_past (item + 1) (length (starts_from 0 items))) [
      | inl lt ↦ rw (any_default (starts_from 0 items) (item + 1) (0 + frame_count (listed items)) 0 lt) (last.last (item + 1) (omega arith) lt)
      | inr le ↦ rw (past_end (starts_from 0 items) (item + 1) (0 + frame_count (listed items)) le) (omega arith)
    ] in
    record { within = omega arith; from = omega arith; before = omega arith }

pub found : (items : List Item) (starts : List ℕ) (number item : ℕ) → starts ≡ starts_from 0 items → number < frame_count (listed items) → IsLastAtMost starts number item → IsItemOf items number item
found items starts number item e less last = found_in items number item less (rw e at last)

none_in : (items : List Item) (number : ℕ) → number < frame_count (listed items) → AreAllAbove (starts_from 0 items) number → ⊥
unfolding starts_from listed frame_count
none_in [] number less above = omega arith
none_in (x ∷ items) number less above = let first : number < 0 = above 0 (omega arith) in omega arith

pub none_found : (items : List Item) (starts : List ℕ) (number : ℕ) → starts ≡ starts_from 0 items → number < frame_count (listed items) → AreAllAbove starts number → ⊥
none_found items starts number e less above = none_in items number less (λ k lt. rw e at (above k (rw e lt)))

-- ---- cursors behind some frames

exists_at : (items : List Item) (i : ℕ) → i < length items → (x : Item) × (get_or items i x ≡ x)
exists_at [] i h = absurd (omega arith)
exists_at (x ∷ items) zero h = (x, refl)
exists_at (x ∷ items) (suc i) h = exists_at items i (omega arith)

pub stands_inside : (items : List Item) (i frames : ℕ) → IsItemOf items (frames - 1) i → 0 < frames → frames ≢ start_of items (i + 1)
    → (state_in items (record { item = i; told = frames; patch = [] }) ≡ placed (listed items) frames) × IsPosition items (record { item = i; told = frames; patch = [] })
stands_inside items i frames is some other =
    let x = exists_at items i is.within in
    let from : start_of items i ≤ frames - 1 = is.from in
    let before : frames - 1 < start_of items (i + 1) = is.before in
    let one : i + 1 ≡ suc i = omega arith in
    let ends : start_of items (i + 1) ≡ start_of items i + frame_count (origins_of x.0) = ap (λ k. start_of items k) one ∙ start_of-next items i x.0 is.within x.1 in
    placed_inside items i frames x.0 is.within x.1 (omega arith) (omega arith)

pub stands_behind : (items : List Item) (i frames : ℕ) → IsItemOf items (frames - 1) i → 0 < frames → frames ≡ start_of items (i + 1)
    → (state_in items (record { item = i + 1; told = frames; patch = [] }) ≡ placed (listed items) frames) × IsPosition items (record { item = i + 1; told = frames; patch = [] })
stands_behind items i frames is some same =
    let x = exists_at items i is.within in
    let from : start_of items i ≤ frames - 1 = is.from in
    placed_behind items i frames x.0 is.within x.1 (omega arith) same

-- ---- seeks

pub seek_past : (items : List Item) (place total : ℕ) (s : CursorState) → total ≡ frame_count (listed items) → total < place → seek (listed items) place s ≡ (answers.Invalid total, s)
unfolding seek
seek_past items place total s e past =
    let test : nat_lt (frame_count (listed items)) place ≡ true = lt-ltb (frame_count (listed items)) place (omega arith) in
    rw test (ap (λ (n : ℕ). let r : Sought × CursorState = (answers.Invalid n, s) in r) (sym e))

pub seek_at : (items : List Item) (place : ℕ) (s : CursorState) → place ≤ frame_count (listed items) → seek (listed items) place s ≡ (answers.At place, placed (listed items) place)
unfolding seek
seek_at items place s h =
    let test : nat_lt (frame_count (listed items)) place ≡ false = le-ltb (frame_count (listed items)) place h in
    rw test refl

-- ---- what a cursor tells

count_front : {F : Type 0} (link k : ℕ) (fs : List F) (ys : List (LineItem F)) → k ≤ length fs → frame_count (take k (map (frame link) fs ++ ys)) ≡ k
unfolding frame_count
count_front link zero fs ys h = refl
count_front link (suc k) [] ys h = absurd (omega arith)
count_front link (suc k) (f ∷ fs) ys h = let rest = count_front link k fs ys (omega arith) in omega arith

front_item : (x : Item) (k : ℕ) (ys : List (LineItem Origin)) → k < max 1 (frame_count (origins_of x)) → frame_count (take k (origins_of x ++ ys)) ≡ k
unfolding frame_count
front_item (variants.Gap link kind) zero ys h = refl
front_item (variants.Gap link kind) (suc k) ys h = absurd (omega arith)
front_item (variants.Span s) k ys h =
    let fs : List Origin = map (origin s.block (s.block + 1)) (range_with_len s.from (s.to - s.from)) in
    count_front s.link k fs ys (omega (arith, frame_count-frames s.link fs, h))

front_of : (items : List Item) (i k : ℕ) → MatchOption (slice_get items i) (k ≡ 0) (λ (x : Item). k < max 1 (frame_count (origins_of x))) → frame_count (take k (listed (drop i items))) ≡ k
unfolding listed frame_count
front_of [] zero k h = let e : 0 ≡ k = omega arith in rw (sym e) refl
front_of [] (suc i) k h = let e : 0 ≡ k = omega arith in rw (sym e) refl
front_of (x ∷ items) zero k h = front_item x k (listed items) h
front_of (x ∷ items) (suc i) k h = front_of items i k h

shifted : (told begun : ℕ) (x : Option Item) → begun ≤ told → MatchOption x (told ≡ begun) (λ (y : Item). told < begun + max 1 (frame_count (origins_of y))) → MatchOption x (told - begun ≡ 0) (λ (y : Item). told - begun < max 1 (frame_count (origins_of y)))
shifted told begun None le h = omega arith
shifted told begun (Some y) le h = omega arith

pub told_is : (items : List Item) (p : Position) → IsPosition items p → p.told ≡ tell (listed items) (state_in items p)
told_is items p is =
    let front : List (LineItem Origin) = listed (take p.item items) in
    let back : List (LineItem Origin) = listed (drop p.item items) in
    let from : start_of items p.item ≤ p.told = is.from in
    let whole : listed items ≡ front ++ back = ap (λ (xs : List Item). listed xs) (sym (take-append-drop p.item items)) ∙ listed-append (take p.item items) (drop p.item items) in
    let place : p.told + gaps_before items p.item ≡ length front + (p.told - start_of items p.item) = omega (arith, length-counts front) in
    let count = front_of items p.item (p.told - start_of items p.item) (shifted p.told (start_of items p.item) (slice_get items p.item) is.from is.before) in
    let cut : take (p.told + gaps_before items p.item) (listed items) ≡ front ++ take (p.told - start_of items p.item) back = rw (place, whole) (take-append-add front back (p.told - start_of items p.item)) in
    let counted : frame_count (take (p.told + gaps_before items p.item) (listed items)) ≡ frame_count (front ++ take (p.told - start_of items p.item) back) = ap (λ (xs : List (LineItem Origin)). frame_count xs) cut in
    omega (arith, counted, frame_count-append front (take (p.told - start_of items p.item) back), count)
