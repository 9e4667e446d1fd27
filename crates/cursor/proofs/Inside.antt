-- The line from a position on.
use Rattle.std.proofs.Common.{◌≡◌, ℕ, zero, suc, ◌+◌, ◌-◌, ◌≤◌, ◌<◌, min, max, inl, inr, Bool, true, false, nat_eq, List, [], ◌∷◌, ◌++◌, length, map, take, drop, refl, ap, sym, ◌∙◌, arith, get_or, Some, None, eq-eqb}
use Rattle.std.specs.List.{All, slice_get, range_with_len, flat_map}
use Rattle.std.proofs.lemmas.Option.{slice_get_within, get_or_from_slice_get}
use Rattle.std.proofs.lemmas.Bool.{eqb-true, eqb-false}
use Rattle.std.proofs.lemmas.List.{take-append-drop, drop-append-le, drop-map, drop_all, length-map}
use Rattle.std.proofs.lemmas.List.Elements.{All-head, All-tail, All-drop}
use Rattle.std.proofs.lemmas.List.FromFn.{length-map-range_with_len}
use Rattle.std.proofs.Math.Seq.{drop-append-add, take-nil}
use Rattle.model_line.specs.declared.row.GapKind.{GapKind}
use Rattle.model_line.specs.declared.item.Span.{Span}
use Rattle.model_line.specs.declared.item.Item.{Item}
use Rattle.model_line.specs.declared.item.Item.TheVariants as variants
use Rattle.model_line.specs.Decode.{LineItem, frame, gap, frame_count}
use Rattle.model_line.specs.Origins.{Origin, origin, origins_of, listed, HaveStarts, HasFrame}
use Rattle.model_line.specs.Index.{Indexed}
use Rattle.model_line.proofs.Counts.{frame_count-append, frame_count-frames}
use Rattle.film_index.specs.Items.{AreIndexItems}
use Rattle.model_cursor.specs.Runs.{frames_of_link, run, run_at}
use Rattle.model_cursor.specs.Positions.{Position, IsPosition, start_of, gaps_before}
use Rattle.model_cursor.proofs.Counting.{length-counts, listed-append}
use Rattle.cursor.specs.declared.portions.Portion.{Portion}
use Rattle.cursor.specs.Portions.{cut, portions_on, portions_at}
use Rattle.cursor.proofs.PortionSteps.{front, none_on, more_on}

-- ---- positions in a span

pub have_starts-drop : (n : ℕ) (items : List Item) (i : ℕ) → HaveStarts n items → HaveStarts (n + start_of items i) (drop i items)
unfolding HaveStarts listed frame_count
have_starts-drop n items zero h = let e : n + 0 ≡ n = omega arith in rw e h
have_starts-drop n [] (suc i) h = tt
have_starts-drop n (x ∷ items) (suc i) h =
    let e : n + frame_count (origins_of x) + start_of items i ≡ n + start_of (x ∷ items) (suc i) = omega (arith, frame_count-append (origins_of x) (listed (take i items))) in
    rw e at (have_starts-drop (n + frame_count (origins_of x)) items i h.1)

pub span_count : (s : Span) → frame_count (origins_of (variants.Span s)) ≡ s.to - s.from
span_count s = frame_count-frames s.link (map (origin s.block (s.block + 1)) (range_with_len s.from (s.to - s.from))) ∙ length-map-range_with_len (origin s.block (s.block + 1)) s.from (s.to - s.from)

-- a position is before some frame of this span
pub record IsInside (items : List Item) (p : Position) (s : Span) : Type 0 where
  pub within : p.item < length items
  pub rest : drop p.item items ≡ variants.Span s ∷ drop (p.item + 1) items
  pub start : s.start ≡ start_of items p.item
  pub from : s.start ≤ p.told
  pub skip : s.from + (p.told - s.start) < s.to
  pub starts : HaveStarts (s.start + (s.to - s.from)) (drop (p.item + 1) items)

pub inside : (index : Indexed) (p : Position) (s : Span) → AreIndexItems index → IsPosition index.items p → slice_get index.items p.item ≡ Some (variants.Span s) → IsInside index.items p s
unfolding HaveStarts
inside index p s right is here =
    let items : List Item = index.items in
    let lt : p.item < length items = slice_get_within items p.item (variants.Span s) here in
    let at : get_or items p.item (variants.Span s) ≡ variants.Span s = get_or_from_slice_get items p.item (variants.Span s) (variants.Span s) here in
    let rest = front items p.item (variants.Span s) (variants.Span s) lt at in
    let starts = rw rest at (have_starts-drop 0 items p.item right.starts) in
    let begun : s.start ≡ 0 + start_of items p.item = starts.0 in
    let some : s.from < s.to = rw at at (right.frames p.item (variants.Span s) lt) in
    let above : start_of items p.item ≤ p.told = is.from in
    let before : p.told < start_of items p.item + max 1 (frame_count (origins_of (variants.Span s))) = rw here at is.before in
    let count = span_count s in
    let next : 0 + start_of items p.item + frame_count (origins_of (variants.Span s)) ≡ s.start + (s.to - s.from) = omega arith in
    record {
      within = lt;
      rest = rest;
      start = omega arith;
      from = omega arith;
      skip = omega arith;
      starts = rw next at starts.1;
    }

pub drop_place : (items : List Item) (p : Position) → start_of items p.item ≤ p.told → drop (p.told + gaps_before items p.item) (listed items) ≡ drop (p.told - start_of items p.item) (listed (drop p.item items))
drop_place items p from =
    let ahead : List (LineItem Origin) = listed (take p.item items) in
    let back : List (LineItem Origin) = listed (drop p.item items) in
    let whole : listed items ≡ ahead ++ back = ap (λ (xs : List Item). listed xs) (sym (take-append-drop p.item items)) ∙ listed-append (take p.item items) (drop p.item items) in
    let place : p.told + gaps_before items p.item ≡ length ahead + (p.told - start_of items p.item) = omega (arith, length-counts ahead) in
    rw (place, whole) (drop-append-add ahead back (p.told - start_of items p.item))

-- ---- origins of frames that follow each other

abbrev pub org : ℕ → ℕ → ℕ → List Origin
org block from count = map (origin block (block + 1)) (range_with_len from count)

abbrev pub portion_origins : Portion → List Origin
portion_origins p = org p.block p.from (p.to - p.from)

drop-org : {A : Type 0} (f : ℕ → A) (a n k : ℕ) → k ≤ n → drop k (map f (range_with_len a n)) ≡ map f (range_with_len (a + k) (n - k))
drop-org f a n zero h = let e : a + 0 ≡ a = omega arith in let m : n - 0 ≡ n = omega arith in rw (e, m) refl
drop-org f a zero (suc k) h = absurd (omega arith)
drop-org f a (suc n) (suc k) h =
    let e : a + 1 + k ≡ a + suc k = omega arith in
    let m : suc n - suc k ≡ n - k = omega arith in
    rw (sym e, m) (drop-org f (a + 1) n k (omega arith))

take-org : {A : Type 0} (f : ℕ → A) (a n k : ℕ) → take k (map f (range_with_len a n)) ≡ map f (range_with_len a (min k n))
take-org f a n zero = let m : min 0 n ≡ 0 = omega arith in rw m refl
take-org f a zero (suc k) = let m : min (suc k) 0 ≡ 0 = omega arith in rw m refl
take-org f a (suc n) (suc k) = let m : min (suc k) (suc n) ≡ suc (min k n) = omega arith in rw m (ap (λ xs. f a ∷ xs) (take-org f (a + 1) n k))

cut_origins : (skip count : ℕ) (s : Span) → take count (org s.block (s.from + skip) (s.to - (s.from + skip))) ≡ portion_origins (cut skip count s)
cut_origins skip count s =
    let n : ℕ = s.to - (s.from + skip) in
    let m : s.from + skip + min count n - (s.from + skip) ≡ min count n = omega arith in
    take-org (origin s.block (s.block + 1)) (s.from + skip) n count ∙ ap (λ (k : ℕ). org s.block (s.from + skip) k) (sym m)

-- the line from a position in a span on
pub span_behind : (items : List Item) (p : Position) (s : Span) → IsInside items p s → let skip = p.told - s.start in drop (p.told + gaps_before items p.item) (listed items) ≡ map (frame s.link) (org s.block (s.from + skip) (s.to - (s.from + skip))) ++ listed (drop (p.item + 1) items)
unfolding listed
span_behind items p s is =
    let begun : s.start ≡ start_of items p.item = is.start in
    let skip : ℕ = p.told - s.start in
    let ahead : s.from + skip < s.to = is.skip in
    let from : s.start ≤ p.told = is.from in
    let same : p.told - start_of items p.item ≡ skip = omega arith in
    let all : List Origin = org s.block s.from (s.to - s.from) in
    let count : length all ≡ s.to - s.from = length-map-range_with_len (origin s.block (s.block + 1)) s.from (s.to - s.from) in
    let counted : length (map (frame s.link) all) ≡ s.to - s.from = length-map all (frame s.link) ∙ count in
    let m : s.to - s.from - skip ≡ s.to - (s.from + skip) = omega arith in
    drop_place items p (omega arith)
    ∙ ap (λ (k : ℕ). drop k (listed (drop p.item items))) same
    ∙ ap (λ (xs : List Item). drop skip (listed xs)) is.rest
    ∙ drop-append-le skip (map (frame s.link) all) (listed (drop (p.item + 1) items)) (omega arith)
    ∙ ap (λ (xs : List (LineItem Origin)). xs ++ listed (drop (p.item + 1) items)) (drop-map (frame s.link) skip all ∙ ap (λ (os : List Origin). map (frame s.link) os) (drop-org (origin s.block (s.block + 1)) s.from (s.to - s.from) skip (omega arith) ∙ ap (λ (k : ℕ). org s.block (s.from + skip) k) m))

-- ---- runs

pub frames_of_link-frames : {F : Type 0} (link : ℕ) (fs : List F) (xs : List (LineItem F)) → frames_of_link link (map (frame link) fs ++ xs) ≡ fs ++ frames_of_link link xs
unfolding frames_of_link
frames_of_link-frames link [] xs = refl
frames_of_link-frames link (f ∷ fs) xs =
    let same : nat_eq link link ≡ true = eq-eqb link link refl in
    rw same (ap (λ ys. f ∷ ys) (frames_of_link-frames link fs xs))

pub run_frames : {F : Type 0} (link : ℕ) (fs : List F) (xs : List (LineItem F)) → 0 < length fs → run (map (frame link) fs ++ xs) ≡ fs ++ frames_of_link link xs
unfolding run
run_frames link [] xs some = absurd (omega arith)
run_frames link (f ∷ fs) xs some = ap (λ ys. f ∷ ys) (frames_of_link-frames link fs xs)

pub other_frames : {F : Type 0} (link other : ℕ) (fs : List F) (xs : List (LineItem F)) → 0 < length fs → nat_eq other link ≡ false → frames_of_link link (map (frame other) fs ++ xs) ≡ []
unfolding frames_of_link
other_frames link other [] xs some e = absurd (omega arith)
other_frames link other (f ∷ fs) xs some e = rw e refl

take-both : {A : Type 0} (n : ℕ) (xs ys : List A) → take n (xs ++ ys) ≡ take n xs ++ take (n - length xs) ys
take-both zero xs ys = let e : 0 - length xs ≡ 0 = omega arith in rw e refl
take-both (suc n) [] ys = let e : suc n - 0 ≡ suc n = omega arith in rw e refl
take-both (suc n) (x ∷ xs) ys = let e : suc n - suc (length xs) ≡ n - length xs = omega arith in rw e (ap (λ zs. x ∷ zs) (take-both n xs ys))

-- so many frames of a link are those of its portions
on_span : (link left : ℕ) (s : Span) (xs : List Item) → s.from < s.to → ((k : ℕ) → take k (frames_of_link link (listed xs)) ≡ flat_map portion_origins (portions_on link k xs)) → (b : Bool) → nat_eq s.link link ≡ b
    → take left (frames_of_link link (listed (variants.Span s ∷ xs))) ≡ flat_map portion_origins (portions_on link left (variants.Span s ∷ xs))
unfolding listed
on_span link zero s xs some rest b e = ap (λ (ps : List Portion). flat_map portion_origins ps) (sym (none_on link zero s xs (inr refl)))
on_span link (suc left) s xs some rest true e =
    let os : List Origin = org s.block s.from (s.to - s.from) in
    let len : length os ≡ s.to - s.from = length-map-range_with_len (origin s.block (s.block + 1)) s.from (s.to - s.from) in
    let same : s.link ≡ link = eqb-true s.link link e in
    let more : List Origin = frames_of_link link (listed xs) in
    let linked : frames_of_link link (map (frame s.link) os ++ listed xs) ≡ os ++ more = ap (λ (k : ℕ). frames_of_link link (map (frame k) os ++ listed xs)) same ∙ frames_of_link-frames link os (listed xs) in
    let none : s.from + 0 ≡ s.from = omega arith in
    let first : take (suc left) os ≡ portion_origins (cut 0 (suc left) s) = ap (λ (k : ℕ). take (suc left) (org s.block k (s.to - k))) (sym none) ∙ cut_origins 0 (suc left) s in
    ap (λ (fs : List Origin). take (suc left) fs) linked
    ∙ take-both (suc left) os more
    ∙ ap (λ (fs : List Origin). fs ++ take (suc left - length os) more) first
    ∙ ap (λ (k : ℕ). portion_origins (cut 0 (suc left) s) ++ take (suc left - k) more) len
    ∙ ap (λ (fs : List Origin). portion_origins (cut 0 (suc left) s) ++ fs) (rest (suc left - (s.to - s.from)))
    ∙ sym (ap (λ (ps : List Portion). flat_map portion_origins ps) (more_on link (suc left) s xs same (omega arith)))
on_span link (suc left) s xs some rest false e =
    let os : List Origin = org s.block s.from (s.to - s.from) in
    let len : length os ≡ s.to - s.from = length-map-range_with_len (origin s.block (s.block + 1)) s.from (s.to - s.from) in
    ap (λ (fs : List Origin). take (suc left) fs) (other_frames link s.link os (listed xs) (omega arith) e)
    ∙ ap (λ (ps : List Portion). flat_map portion_origins ps) (sym (none_on link (suc left) s xs (inl (eqb-false s.link link e))))

pub on_origins : (link left : ℕ) (xs : List Item) → All HasFrame xs → take left (frames_of_link link (listed xs)) ≡ flat_map portion_origins (portions_on link left xs)
unfolding listed portions_on frames_of_link
on_origins link left [] has = take-nil left
on_origins link left (variants.Gap other kind ∷ xs) has = take-nil left
on_origins link left (variants.Span s ∷ xs) has =
    on_span link left s xs (All-head HasFrame (variants.Span s) xs has) (λ k. on_origins link k xs (All-tail HasFrame (variants.Span s) xs has)) (nat_eq s.link link) refl

pub run_origins : (items : List Item) (p : Position) (s : Span) (count : ℕ) → All HasFrame items → IsInside items p s → take count (run_at (listed items) (p.told + gaps_before items p.item)) ≡ flat_map portion_origins (portions_at items p s count)
run_origins items p s count has is =
    let skip : ℕ = p.told - s.start in
    let os : List Origin = org s.block (s.from + skip) (s.to - (s.from + skip)) in
    let ys : List Item = drop (p.item + 1) items in
    let ahead : s.from + skip < s.to = is.skip in
    let len : length os ≡ s.to - (s.from + skip) = length-map-range_with_len (origin s.block (s.block + 1)) (s.from + skip) (s.to - (s.from + skip)) in
    ap (λ (xs : List (LineItem Origin)). take count (run xs)) (span_behind items p s is)
    ∙ ap (λ (fs : List Origin). take count fs) (run_frames s.link os (listed ys) (omega arith))
    ∙ take-both count os (frames_of_link s.link (listed ys))
    ∙ ap (λ (fs : List Origin). fs ++ take (count - length os) (frames_of_link s.link (listed ys))) (cut_origins skip count s)
    ∙ ap (λ (k : ℕ). portion_origins (cut skip count s) ++ take (count - k) (frames_of_link s.link (listed ys))) len
    ∙ ap (λ (fs : List Origin). portion_origins (cut skip count s) ++ fs) (on_origins s.link (count - (s.to - (s.from + skip))) ys (All-drop HasFrame (p.item + 1) items has))

-- ---- positions at a gap, and at the end

pub gap_behind : (items : List Item) (p : Position) (link : ℕ) (kind : GapKind) → IsPosition items p → slice_get items p.item ≡ Some (variants.Gap link kind) → drop (p.told + gaps_before items p.item) (listed items) ≡ gap link kind ∷ listed (drop (p.item + 1) items)
unfolding listed frame_count
gap_behind items p link kind is here =
    let lt : p.item < length items = slice_get_within items p.item (variants.Gap link kind) here in
    let at : get_or items p.item (variants.Gap link kind) ≡ variants.Gap link kind = get_or_from_slice_get items p.item (variants.Gap link kind) (variants.Gap link kind) here in
    let above : start_of items p.item ≤ p.told = is.from in
    let before : p.told < start_of items p.item + max 1 (frame_count (origins_of (variants.Gap link kind))) = rw here at is.before in
    let none : p.told - start_of items p.item ≡ 0 = omega arith in
    drop_place items p above
    ∙ ap (λ (k : ℕ). drop k (listed (drop p.item items))) none
    ∙ ap (λ (xs : List Item). listed xs) (front items p.item (variants.Gap link kind) (variants.Gap link kind) lt at)

pub end_behind : (items : List Item) (p : Position) → IsPosition items p → slice_get items p.item ≡ None → drop (p.told + gaps_before items p.item) (listed items) ≡ []
unfolding listed
end_behind items p is here =
    let above : start_of items p.item ≤ p.told = is.from in
    let before : p.told ≡ start_of items p.item = rw here at is.before in
    let none : p.told - start_of items p.item ≡ 0 = omega arith in
    drop_place items p above
    ∙ ap (λ (k : ℕ). drop k (listed (drop p.item items))) none
    ∙ ap (λ (xs : List Item). listed xs) (drop_all p.item items (past items p.item here))
  where
    past : (xs : List Item) (i : ℕ) → slice_get xs i ≡ None → length xs ≤ i
    past [] i e = omega arith
    past (x ∷ xs) zero e = absurd (none_some e)
      where
        none_some : Some x ≡ None → ⊥
        none_some e = cc
    past (x ∷ xs) (suc i) e = let rest = past xs i e in omega arith
