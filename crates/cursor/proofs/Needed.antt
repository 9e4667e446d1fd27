-- What the portions of a read need is what the frames of the read need.
use Rattle.std.proofs.Common.{◌≡◌, ℕ, zero, suc, ◌+◌, ◌-◌, ◌≤◌, ◌<◌, min, max, inl, inr, Bool, true, false, nat_eq, List, [], ◌∷◌, ◌++◌, length, map, take, drop, refl, ap, sym, ◌∙◌, arith, length-append}
use Rattle.std.specs.List.{All, flat_map}
use Rattle.std.proofs.lemmas.Bool.{eqb-true, eqb-false, lt-ltb, le-ltb}
use Rattle.std.proofs.lemmas.List.Elements.{All-head, All-tail, All-drop}
use Rattle.std.proofs.lemmas.List.FromFn.{length-map-range_with_len}
use Rattle.model_line.specs.declared.item.Span.{Span}
use Rattle.model_line.specs.declared.item.Item.{Item}
use Rattle.model_line.specs.declared.item.Item.TheVariants as variants
use Rattle.model_line.specs.Decode.{LineItem, frame, frame_count}
use Rattle.model_line.specs.Origins.{Origin, origin, origins_of, listed, HasStart, HaveStarts, HasFrame}
use Rattle.model_line.specs.Index.{Indexed}
use Rattle.model_line.proofs.Counts.{frame_count-append}
use Rattle.film_index.specs.Items.{AreIndexItems}
use Rattle.model_cursor.specs.declared.need.Need.{Need}
use Rattle.model_cursor.specs.Runs.{frames_of_link, run, run_at}
use Rattle.model_cursor.specs.Plans.{span_needs, meets, item_needs, needs_between, read_needs}
use Rattle.model_cursor.specs.Positions.{Position, IsPosition, start_of, gaps_before}
use Rattle.cursor.specs.declared.portions.Portion.{Portion}
use Rattle.cursor.specs.Portions.{portions_on, portions_at, needs_of}
use Rattle.cursor.proofs.PortionSteps.{none_on, more_on}
use Rattle.cursor.proofs.Items.{told_is}
use Rattle.cursor.proofs.Inside.{IsInside, org, span_count, span_behind, run_frames, frames_of_link-frames, other_frames}

-- ---- items that are met, and others

unmet : (from to : ℕ) (s : Span) → min to (s.start + (s.to - s.from)) ≤ max from s.start → item_needs from to (variants.Span s) ≡ []
unmet from to s h = let test : meets from to s ≡ false = le-ltb (max from s.start) (min to (s.start + (s.to - s.from))) h in rw test refl

met : (from to : ℕ) (s : Span) → max from s.start < min to (s.start + (s.to - s.from)) → item_needs from to (variants.Span s) ≡ span_needs s
met from to s h = let test : meets from to s ≡ true = lt-ltb (max from s.start) (min to (s.start + (s.to - s.from))) h in rw test refl

-- no frame is needed
pub none_between : (from to : ℕ) (xs : List Item) → to ≤ from → flat_map (item_needs from to) xs ≡ []
none_between from to [] h = refl
none_between from to (variants.Gap link kind ∷ xs) h = none_between from to xs h
none_between from to (variants.Span s ∷ xs) h = rw (unmet from to s (omega arith)) (none_between from to xs h)

-- all items are behind
none_behind : (n from to : ℕ) (xs : List Item) → HaveStarts n xs → to ≤ n → flat_map (item_needs from to) xs ≡ []
unfolding HaveStarts
none_behind n from to [] starts h = refl
none_behind n from to (variants.Gap link kind ∷ xs) starts h = none_behind (n + frame_count (origins_of (variants.Gap link kind))) from to xs starts.1 (omega arith)
none_behind n from to (variants.Span s ∷ xs) starts h =
    let begun : s.start ≡ n = starts.0 in
    rw (unmet from to s (omega arith)) (none_behind (n + frame_count (origins_of (variants.Span s))) from to xs starts.1 (omega arith))

-- an item is ahead
item_ahead : (n from to : ℕ) (x : Item) → HasStart n x → n + frame_count (origins_of x) ≤ from → item_needs from to x ≡ []
item_ahead n from to (variants.Gap link kind) start h = refl
item_ahead n from to (variants.Span s) start h =
    let begun : s.start ≡ n = start in
    let count = span_count s in
    unmet from to s (omega arith)

items_ahead : (n from to : ℕ) (items : List Item) (i : ℕ) → HaveStarts n items → n + start_of items i ≤ from → flat_map (item_needs from to) items ≡ flat_map (item_needs from to) (drop i items)
unfolding HaveStarts listed frame_count
items_ahead n from to items zero starts h = refl
items_ahead n from to [] (suc i) starts h = refl
items_ahead n from to (x ∷ items) (suc i) starts h =
    let all = frame_count-append (origins_of x) (listed (take i items)) in
    rw (item_ahead n from to x starts.0 (omega arith)) (items_ahead (n + frame_count (origins_of x)) from to items i starts.1 (omega arith))

-- ---- the items of a run

-- up to so many frames of a link, behind so many of the line
abbrev UpTo : ℕ → ℕ → ℕ → ℕ → Type 0
UpTo n left count to = (to ≤ n + min left count) × (0 < left → to ≡ n + min left count)

span_needed : (link left n from to : ℕ) (s : Span) (xs : List Item) → HaveStarts n (variants.Span s ∷ xs) → s.from < s.to → from ≤ n → UpTo n left (length (frames_of_link link (listed (variants.Span s ∷ xs)))) to
    → ((k : ℕ) → UpTo (n + (s.to - s.from)) k (length (frames_of_link link (listed xs))) to → flat_map (item_needs from to) xs ≡ needs_of (portions_on link k xs)) → (b : Bool) → nat_eq s.link link ≡ b
    → flat_map (item_needs from to) (variants.Span s ∷ xs) ≡ needs_of (portions_on link left (variants.Span s ∷ xs))
unfolding listed HaveStarts
span_needed link zero n from to s xs starts some le up rest b e =
    let most = up.0 in
    none_behind n from to (variants.Span s ∷ xs) starts (omega arith) ∙ ap (λ (ps : List Portion). needs_of ps) (sym (none_on link zero s xs (inr refl)))
span_needed link (suc left) n from to s xs starts some le up rest true e =
    let os : List Origin = org s.block s.from (s.to - s.from) in
    let len : length os ≡ s.to - s.from = length-map-range_with_len (origin s.block (s.block + 1)) s.from (s.to - s.from) in
    let same : s.link ≡ link = eqb-true s.link link e in
    let more : List Origin = frames_of_link link (listed xs) in
    let linked : frames_of_link link (map (frame s.link) os ++ listed xs) ≡ os ++ more = ap (λ (k : ℕ). frames_of_link link (map (frame k) os ++ listed xs)) same ∙ frames_of_link-frames link os (listed xs) in
    let counted : length (frames_of_link link (map (frame s.link) os ++ listed xs)) ≡ s.to - s.from + length more = ap (λ (fs : List Origin). length fs) linked ∙ length-append os more ∙ ap (λ (k : ℕ). k + length more) len in
    let begun : s.start ≡ n = starts.0 in
    let last : to ≡ n + min (suc left) (length (frames_of_link link (map (frame s.link) os ++ listed xs))) = up.1 (omega arith) in
    let known : to ≡ n + min (suc left) (s.to - s.from + length more) = rw counted at last in
    rw (met from to s (omega arith), more_on link (suc left) s xs same (omega arith)) (ap (λ (ns : List Need). span_needs s ++ ns) (rest (suc left - (s.to - s.from)) (omega arith, λ h. omega arith)))
span_needed link (suc left) n from to s xs starts some le up rest false e =
    let os : List Origin = org s.block s.from (s.to - s.from) in
    let len : length os ≡ s.to - s.from = length-map-range_with_len (origin s.block (s.block + 1)) s.from (s.to - s.from) in
    let none = other_frames link s.link os (listed xs) (omega arith) e in
    let most : to ≤ n + min (suc left) (length (frames_of_link link (map (frame s.link) os ++ listed xs))) = up.0 in
    let known : to ≤ n + min (suc left) 0 = rw none at most in
    none_behind n from to (variants.Span s ∷ xs) starts (omega arith) ∙ ap (λ (ps : List Portion). needs_of ps) (sym (none_on link (suc left) s xs (inl (eqb-false s.link link e))))

pub run_needed : (link left n from to : ℕ) (xs : List Item) → HaveStarts n xs → All HasFrame xs → from ≤ n → UpTo n left (length (frames_of_link link (listed xs))) to → flat_map (item_needs from to) xs ≡ needs_of (portions_on link left xs)
unfolding listed HaveStarts portions_on frames_of_link
run_needed link left n from to [] starts has le up = refl
run_needed link left n from to (variants.Gap other kind ∷ xs) starts has le up = let most = up.0 in none_behind n from to (variants.Gap other kind ∷ xs) starts (omega arith)
run_needed link left n from to (variants.Span s ∷ xs) starts has le up =
    let more : HaveStarts (n + (s.to - s.from)) xs = rw (span_count s) at starts.1 in
    span_needed link left n from to s xs starts (All-head HasFrame (variants.Span s) xs has) le up
    (λ k up. run_needed link k (n + (s.to - s.from)) from to xs more (All-tail HasFrame (variants.Span s) xs has) (omega arith) up) (nat_eq s.link link) refl

-- ---- a read in a span

pub needs_at : (index : Indexed) (p : Position) (s : Span) (count : ℕ) → AreIndexItems index → IsPosition index.items p → IsInside index.items p s → 0 < count
    → needs_of (portions_at index.items p s count) ≡ read_needs index.items (p.told + gaps_before index.items p.item) count
unfolding needs_between
needs_at index p s count right is inside some =
    let items : List Item = index.items in
    let place : ℕ = p.told + gaps_before items p.item in
    let skip : ℕ = p.told - s.start in
    let os : List Origin = org s.block (s.from + skip) (s.to - (s.from + skip)) in
    let ys : List Item = drop (p.item + 1) items in
    let more : List Origin = frames_of_link s.link (listed ys) in
    let ahead : s.from + skip < s.to = inside.skip in
    let from : s.start ≤ p.told = inside.from in
    let begun : s.start ≡ start_of items p.item = inside.start in
    let len : length os ≡ s.to - (s.from + skip) = length-map-range_with_len (origin s.block (s.block + 1)) (s.from + skip) (s.to - (s.from + skip)) in
    let all : run_at (listed items) place ≡ os ++ more = ap (λ (xs : List (LineItem Origin)). run xs) (span_behind items p s inside) ∙ run_frames s.link os (listed ys) (omega arith) in
    let counted : length (run_at (listed items) place) ≡ s.to - (s.from + skip) + length more = ap (λ (fs : List Origin). length fs) all ∙ length-append os more ∙ ap (λ (k : ℕ). k + length more) len in
    let to : ℕ = p.told + min count (length (run_at (listed items) place)) in
    let first : item_needs p.told to (variants.Span s) ≡ span_needs s = met p.told to s (omega arith) in
    let rest : flat_map (item_needs p.told to) ys ≡ needs_of (portions_on s.link (count - (s.to - (s.from + skip))) ys) =
    run_needed s.link (count - (s.to - (s.from + skip))) (s.start + (s.to - s.from)) p.told to ys inside.starts (All-drop HasFrame (p.item + 1) items right.frames) (omega arith) (omega arith, λ h. omega arith) in
    let told = told_is items p is in
    let behind : flat_map (item_needs p.told to) items ≡ flat_map (item_needs p.told to) (variants.Span s ∷ ys) = items_ahead 0 p.told to items p.item right.starts (omega arith) ∙ ap (λ (xs : List Item). flat_map (item_needs p.told to) xs) inside.rest in
    sym (ap (λ (k : ℕ). needs_between items k (k + min count (length (run_at (listed items) place)))) (sym told) ∙ behind ∙ rw first (ap (λ (ns : List Need). span_needs s ++ ns) rest))

-- where no frame is next, nothing is needed
pub none_at : (items : List Item) (place count : ℕ) → run_at (listed items) place ≡ [] → read_needs items place count ≡ []
unfolding needs_between
none_at items place count none = let empty = ap (λ (fs : List Origin). length fs) none in none_between (frame_count (take place (listed items))) (frame_count (take place (listed items)) + min count (length (run_at (listed items) place))) items (omega arith)
