-- Places of a line that is put together of parts.
use Rattle.std.proofs.Common.{◌≡◌, ℕ, zero, suc, ◌+◌, ◌-◌, ◌≤◌, ◌<◌, List, [], ◌∷◌, ◌++◌, length, map, take, drop, refl, ap, ◌∙◌, arith, get_or}
use Rattle.std.specs.List.{range_with_len}
use Rattle.std.proofs.lemmas.List.Concat.{flat_map-append}
use Rattle.model_line.specs.declared.item.Item.{Item}
use Rattle.model_line.specs.declared.item.Item.TheVariants as variants
use Rattle.model_line.specs.Decode.{LineItem, frame, gap, frame_count, gap_count}
use Rattle.model_line.specs.Origins.{Origin, origin, origins_of, listed, starts_from}
use Rattle.model_line.proofs.Counts.{frame_count-append, gap_count-append, frame_count-frames, gap_count-frames}
use Rattle.model_cursor.specs.Cursors.{place_after}
use Rattle.model_cursor.specs.Positions.{start_of, gaps_before}

-- ---- lines

pub length-counts : {F : Type 0} (xs : List (LineItem F)) → length xs ≡ frame_count xs + gap_count xs
unfolding frame_count gap_count
length-counts [] = refl
length-counts (frame link value ∷ xs) = let rest = length-counts xs in omega arith
length-counts (gap link kind ∷ xs) = let rest = length-counts xs in omega arith

-- behind a part with fewer frames, the place is as far in the rest
pub place_after-append : {F : Type 0} (frames : ℕ) (xs ys : List (LineItem F)) → frame_count xs < frames → place_after frames (xs ++ ys) ≡ length xs + place_after (frames - frame_count xs) ys
unfolding frame_count place_after
place_after-append zero xs ys h = absurd (omega arith)
place_after-append (suc frames) [] ys h = let e : suc frames - 0 ≡ suc frames = omega arith in rw e (omega arith)
place_after-append (suc frames) (frame link value ∷ xs) ys h =
    let e : suc frames - (1 + frame_count xs) ≡ frames - frame_count xs = omega arith in
    rw e (let rest = place_after-append frames xs ys (omega arith) in omega arith)
place_after-append (suc frames) (gap link kind ∷ xs) ys h = let rest = place_after-append (suc frames) xs ys h in omega arith

-- among frames alone, the place is the number of frames
pub place_after-frames : {F : Type 0} (link count : ℕ) (fs : List F) (ys : List (LineItem F)) → count ≤ length fs → place_after count (map (frame link) fs ++ ys) ≡ count
unfolding place_after
place_after-frames link zero fs ys h = refl
place_after-frames link (suc count) [] ys h = absurd (omega arith)
place_after-frames link (suc count) (f ∷ fs) ys h = let rest = place_after-frames link count fs ys (omega arith) in omega arith

-- ---- items

pub listed-append : (xs ys : List Item) → listed (xs ++ ys) ≡ listed xs ++ listed ys
unfolding listed
listed-append xs ys = flat_map-append origins_of xs ys

-- items are those before one, that one, and the rest
pub around : (items : List Item) (i : ℕ) (x : Item) → i < length items → get_or items i x ≡ x → items ≡ take i items ++ x ∷ drop (suc i) items
around [] i x h e = absurd (omega arith)
around (y ∷ items) zero x h e = ap (λ (z : Item). z ∷ items) e
around (y ∷ items) (suc i) x h e = ap (λ (zs : List Item). y ∷ zs) (around items i x (omega arith) e)

pub take-next : (items : List Item) (i : ℕ) (x : Item) → i < length items → get_or items i x ≡ x → take (suc i) items ≡ take i items ++ x ∷ []
take-next [] i x h e = absurd (omega arith)
take-next (y ∷ items) zero x h e = ap (λ (z : Item). z ∷ []) e
take-next (y ∷ items) (suc i) x h e = ap (λ (zs : List Item). y ∷ zs) (take-next items i x (omega arith) e)

listed_one : (x : Item) → listed (x ∷ []) ≡ origins_of x ++ []
unfolding listed
listed_one x = refl

pub start_of-next : (items : List Item) (i : ℕ) (x : Item) → i < length items → get_or items i x ≡ x → start_of items (suc i) ≡ start_of items i + frame_count (origins_of x)
unfolding frame_count
start_of-next items i x h e =
    ap (λ (zs : List Item). frame_count (listed zs)) (take-next items i x h e)
    ∙ ap (λ (zs : List (LineItem Origin)). frame_count zs) (listed-append (take i items) (x ∷ []))
    ∙ omega (arith, frame_count-append (listed (take i items)) (listed (x ∷ [])), ap (λ (zs : List (LineItem Origin)). frame_count zs) (listed_one x), frame_count-append (origins_of x) [])

pub gaps_before-next : (items : List Item) (i : ℕ) (x : Item) → i < length items → get_or items i x ≡ x → gaps_before items (suc i) ≡ gaps_before items i + gap_count (origins_of x)
unfolding gap_count
gaps_before-next items i x h e =
    ap (λ (zs : List Item). gap_count (listed zs)) (take-next items i x h e)
    ∙ ap (λ (zs : List (LineItem Origin)). gap_count zs) (listed-append (take i items) (x ∷ []))
    ∙ omega (arith, gap_count-append (listed (take i items)) (listed (x ∷ [])), ap (λ (zs : List (LineItem Origin)). gap_count zs) (listed_one x), gap_count-append (origins_of x) [])

-- the starts are the frames before each item
pub starts_from-at : (n : ℕ) (items : List Item) (i d : ℕ) → i < length items → get_or (starts_from n items) i d ≡ n + start_of items i
unfolding starts_from listed frame_count
starts_from-at n [] i d h = absurd (omega arith)
starts_from-at n (x ∷ items) zero d h = omega arith
starts_from-at n (x ∷ items) (suc i) d h =
    let rest = starts_from-at (n + frame_count (origins_of x)) items i d (omega arith) in
    omega (arith, frame_count-append (origins_of x) (listed (take i items)))

pub length-starts : (n : ℕ) (items : List Item) → length (starts_from n items) ≡ length items
unfolding starts_from
length-starts n [] = refl
length-starts n (x ∷ items) = let rest = length-starts (n + frame_count (origins_of x)) items in omega arith

-- ---- where a place after some frames is

listed_around : (items : List Item) (i : ℕ) (x : Item) → i < length items → get_or items i x ≡ x → listed items ≡ listed (take i items) ++ (origins_of x ++ listed (drop (suc i) items))
unfolding listed
listed_around items i x h e = ap (λ (zs : List Item). listed zs) (around items i x h e) ∙ listed-append (take i items) (x ∷ drop (suc i) items)

place_in_frames : (items : List Item) (i frames : ℕ) (x : Item) (link : ℕ) (fs : List Origin) → i < length items → get_or items i x ≡ x → origins_of x ≡ map (frame link) fs → start_of items i < frames → frames ≤ start_of items i + length fs
    → place_after frames (listed items) ≡ frames + gaps_before items i
place_in_frames items i frames x link fs h e os above below =
    let rest = place_after-frames link (frames - start_of items i) fs (listed (drop (suc i) items)) (omega arith) in
    let split = place_after-append frames (listed (take i items)) (map (frame link) fs ++ listed (drop (suc i) items)) above in
    ap (λ (zs : List (LineItem Origin)). place_after frames zs) (listed_around items i x h e ∙ ap (λ (zs : List (LineItem Origin)). listed (take i items) ++ (zs ++ listed (drop (suc i) items))) os)
    ∙ omega (arith, split, rest, length-counts (listed (take i items)))

-- the last of the frames is of this item: then the place is among its frames
pub place_in_item : (items : List Item) (i frames : ℕ) (x : Item) → i < length items → get_or items i x ≡ x → start_of items i < frames → frames ≤ start_of items i + frame_count (origins_of x)
    → place_after frames (listed items) ≡ frames + gaps_before items i
unfolding frame_count
place_in_item items i frames (variants.Gap link kind) h e above below = absurd (omega arith)
place_in_item items i frames (variants.Span s) h e above below =
    let fs : List Origin = map (origin s.block (s.block + 1)) (range_with_len s.from (s.to - s.from)) in
    place_in_frames items i frames (variants.Span s) s.link fs h e refl above (omega (arith, frame_count-frames s.link fs, below))

-- an item with a frame has no gap
pub no_gap : (x : Item) → 0 < frame_count (origins_of x) → gap_count (origins_of x) ≡ 0
unfolding frame_count gap_count
no_gap (variants.Gap link kind) h = absurd (omega arith)
no_gap (variants.Span s) h = gap_count-frames s.link (map (origin s.block (s.block + 1)) (range_with_len s.from (s.to - s.from)))
