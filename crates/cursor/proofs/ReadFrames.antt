-- What a read gives, and where the cursor is then.
use Rattle.std.proofs.Common.{◌≡◌, ℕ, zero, suc, ◌+◌, ◌-◌, ◌*◌, ◌/◌, ◌^◌, ◌≤◌, ◌<◌, min, Bool, true, false, nat_eq, nat_lt, ◌&&◌, cond, List, [], ◌∷◌, ◌++◌, length, map, take, drop, refl, ap, sym, ◌∙◌, arith, length-append, length-drop}
use Rattle.std.specs.List.{All, range_with_len, flat_map}
use Rattle.std.proofs.lemmas.List.{take-append-drop, length-take, map-append}
use Rattle.std.proofs.lemmas.List.Elements.{All-head, All-tail, All-drop, All-cons, All-nil, All-append, All-map, All-weaker}
use Rattle.std.proofs.lemmas.List.FromFn.{length-map-range_with_len}
use Rattle.std.proofs.Math.Seq.{take-append_seam, drop-append_seam}
use Rattle.std.proofs.Math.Nat.{mul-div_cancel_left}
use Rattle.std.proofs.lemmas.Bool.{eqb-true}
use Rattle.model_line.specs.declared.row.GapKind.{GapKind}
use Rattle.model_line.specs.declared.item.Half.TheVariants as halves
use Rattle.model_line.specs.declared.item.Span.{Span}
use Rattle.model_line.specs.declared.item.Item.{Item}
use Rattle.model_line.specs.declared.item.Item.TheVariants as variants
use Rattle.model_line.specs.declared.item.LinkFacts.{LinkFacts}
use Rattle.model_line.specs.Decode.{LineItem, frame, gap, frame_count}
use Rattle.model_line.specs.Origins.{origin, listed, HasFrame}
use Rattle.model_line.specs.Blocks.{overlap_frame, Frame}
use Rattle.model_line.specs.Index.{Indexed, IsWithin}
use Rattle.film_index.specs.Items.{AreIndexItems}
use Rattle.model_cursor.specs.declared.need.Need.{Need}
use Rattle.model_cursor.specs.declared.reply.Reply.{Reply}
use Rattle.model_cursor.specs.declared.reply.Reply.TheVariants as replies
use Rattle.model_cursor.specs.FrameLists.{parts_of, frames_in, values_of}
use Rattle.model_cursor.specs.Runs.{frames_of_link, run, run_at}
use Rattle.model_cursor.specs.Cursors.{CursorState, passed, read, place_after}
use Rattle.model_cursor.specs.Plans.{span_needs, meets, item_needs, needs_between, read_needs}
use Rattle.model_cursor.specs.Positions.{Position}
use Rattle.model_cursor.specs.Sources.{Source, right_of, left_of, channels_in, SpanSuits, ItemSuits, Suits}
use Rattle.model_cursor.proofs.ByOrigins.{frame_of}
use Rattle.model_cursor.proofs.Counting.{place_after-append}
use Rattle.model_cursor.proofs.RunLaws.{run_within}
use Rattle.cursor.specs.declared.portions.Portion.{Portion}
use Rattle.cursor.specs.Portions.{cut, portions_on, portions_at, needs_of, HasNext, HasChannels, frames_from, FitsHalves, FitHalves}
use Rattle.cursor.proofs.Inside.{IsInside, portion_origins}

-- ---- the frames of portions, by the halves that they need

portion_values : (source : Source) (block : ℕ) (ns : List ℕ) → map (overlap_frame (right_of source block) (left_of source (block + 1))) ns ≡ map (frame_of source) (map (origin block (block + 1)) ns)
portion_values source block [] = refl
portion_values source block (n ∷ ns) = ap (λ (fs : List Frame). overlap_frame (right_of source block) (left_of source (block + 1)) n ∷ fs) (portion_values source block ns)

abbrev pub frames_at : Source → List Portion → List Frame
frames_at source ps = map (frame_of source) (flat_map portion_origins ps)

pub frames_given : (source : Source) (ps : List Portion) → frames_from ps (map source (needs_of ps)) ≡ frames_at source ps
unfolding frames_from
frames_given source [] = refl
frames_given source (p ∷ ps) =
    ap (λ (fs : List Frame). fs ++ frames_from ps (map source (needs_of ps))) (portion_values source p.block (range_with_len p.from (p.to - p.from)))
    ∙ ap (λ (fs : List Frame). map (frame_of source) (portion_origins p) ++ fs) (frames_given source ps)
    ∙ sym (map-append (frame_of source) (portion_origins p) (flat_map portion_origins ps))

-- ---- portions fit the halves that they need

cut_fits : (links : List LinkFacts) (source : Source) (skip count : ℕ) (s : Span) → s.from + skip ≤ s.to → SpanSuits links source s → FitsHalves (right_of source s.block) (left_of source (s.block + 1)) (cut skip count s)
cut_fits links source skip count s le suits =
    let channels : length (left_of source (s.block + 1)) ≡ channels_in links s.link = suits.left.count in
    let within = suits.within in
    record {
      right = rw channels suits.right;
      left = rw channels suits.left;
      order = omega arith;
      within = omega arith;
    }

fit_on : (links : List LinkFacts) (source : Source) (link left : ℕ) (xs : List Item) → All HasFrame xs → All (ItemSuits links source) xs → FitHalves (portions_on link left xs) (map source (needs_of (portions_on link left xs)))
unfolding FitHalves portions_on
fit_on links source link left [] has suit = tt
fit_on links source link left (variants.Gap other kind ∷ xs) has suit = tt
fit_on links source link left (variants.Span s ∷ xs) has suit =
    let some : s.from < s.to = All-head HasFrame (variants.Span s) xs has in
    let rest : List Portion = portions_on link (left - (s.to - s.from)) xs in
    elim (nat_eq s.link link && nat_lt 0 left) as (λ b. FitHalves (cond b (cut 0 left s ∷ rest) []) (map source (needs_of (cond b (cut 0 left s ∷ rest) [])))) [
      | true ↦ (cut_fits links source 0 left s (omega arith) (All-head (ItemSuits links source) (variants.Span s) xs suit), fit_on links source link (left - (s.to - s.from)) xs (All-tail HasFrame (variants.Span s) xs has) (All-tail (ItemSuits links source) (variants.Span s) xs suit))
      | false ↦ tt
    ]

-- what holds of the item of a position holds of its span
pub at_item : (P : Item → Type 0) (items : List Item) (p : Position) (s : Span) → IsInside items p s → All P items → P (variants.Span s)
at_item P items p s is all = All-head P (variants.Span s) (drop (p.item + 1) items) (rw is.rest at (All-drop P p.item items all))

pub fit_at : (index : Indexed) (p : Position) (s : Span) (count : ℕ) (source : Source) → AreIndexItems index → IsInside index.items p s → Suits index source → FitHalves (portions_at index.items p s count) (map source (needs_of (portions_at index.items p s count)))
unfolding FitHalves
fit_at index p s count source right is suits =
    let ahead : s.from + (p.told - s.start) < s.to = is.skip in (
      cut_fits index.links source (p.told - s.start) count s (omega arith) (at_item (ItemSuits index.links source) index.items p s is suits),
      fit_on index.links source s.link (count - (s.to - (s.from + (p.told - s.start)))) (drop (p.item + 1) index.items) (All-drop HasFrame (p.item + 1) index.items right.frames) (All-drop (ItemSuits index.links source) (p.item + 1) index.items suits),
    )

-- ---- the blocks that are needed are there

next_on : (blocks link left : ℕ) (xs : List Item) → blocks < 2 ^ 32 → All (IsWithin blocks) xs → All HasNext (portions_on link left xs)
unfolding portions_on
next_on blocks link left [] few within = All-nil HasNext
next_on blocks link left (variants.Gap other kind ∷ xs) few within = All-nil HasNext
next_on blocks link left (variants.Span s ∷ xs) few within =
    let here : s.block + 1 < blocks = All-head (IsWithin blocks) (variants.Span s) xs within in
    let rest : List Portion = portions_on link (left - (s.to - s.from)) xs in
    elim (nat_eq s.link link && nat_lt 0 left) as (λ b. All HasNext (cond b (cut 0 left s ∷ rest) [])) [
      | true ↦ All-cons HasNext (cut 0 left s) rest (omega arith) (next_on blocks link (left - (s.to - s.from)) xs few (All-tail (IsWithin blocks) (variants.Span s) xs within))
      | false ↦ All-nil HasNext
    ]

pub next_at : (index : Indexed) (p : Position) (s : Span) (count : ℕ) → AreIndexItems index → IsInside index.items p s → All HasNext (portions_at index.items p s count)
next_at index p s count right is =
    let here : s.block + 1 < index.blocks = at_item (IsWithin index.blocks) index.items p s is right.within in
    let few : index.blocks < 2 ^ 32 = right.few in
    All-cons HasNext (cut (p.told - s.start) count s) (portions_on s.link (count - (s.to - (s.from + (p.told - s.start)))) (drop (p.item + 1) index.items)) (omega arith)
    (next_on index.blocks s.link (count - (s.to - (s.from + (p.told - s.start)))) (drop (p.item + 1) index.items) few (All-drop (IsWithin index.blocks) (p.item + 1) index.items right.within))

abbrev pub IsBelow : ℕ → Need → Type 0
IsBelow blocks need = need.block < blocks

item_within : (blocks from to : ℕ) (x : Item) → IsWithin blocks x → All (IsBelow blocks) (item_needs from to x)
item_within blocks from to (variants.Gap link kind) within = All-nil (IsBelow blocks)
item_within blocks from to (variants.Span s) within =
    let here : s.block + 1 < blocks = within in
    let first : Need = record { block = s.block; half = halves.Right } in
    let second : Need = record { block = s.block + 1; half = halves.Left } in
    elim (meets from to s) as (λ b. All (IsBelow blocks) (cond b (span_needs s) [])) [
      | true ↦ All-cons (IsBelow blocks) first (second ∷ []) (omega arith) (All-cons (IsBelow blocks) second [] here (All-nil (IsBelow blocks)))
      | false ↦ All-nil (IsBelow blocks)
    ]

needs_within : (blocks from to : ℕ) (xs : List Item) → All (IsWithin blocks) xs → All (IsBelow blocks) (flat_map (item_needs from to) xs)
needs_within blocks from to [] within = All-nil (IsBelow blocks)
needs_within blocks from to (x ∷ xs) within = All-append (IsBelow blocks) (item_needs from to x) (flat_map (item_needs from to) xs) (item_within blocks from to x (All-head (IsWithin blocks) x xs within)) (needs_within blocks from to xs (All-tail (IsWithin blocks) x xs within))

pub needs_there : (index : Indexed) (place count blocks : ℕ) → AreIndexItems index → index.blocks ≤ blocks → All (IsBelow blocks) (read_needs index.items place count)
unfolding needs_between
needs_there index place count blocks right le = All-weaker (IsBelow index.blocks) (IsBelow blocks) (λ need less. omega arith) (read_needs index.items place count) (needs_within index.blocks (frame_count (take place (listed index.items))) (frame_count (take place (listed index.items)) + min count (length (run_at (listed index.items) place))) index.items right.within)

-- ---- each frame has a value per channel

portion_channels : (source : Source) (n : ℕ) (p : Portion) → length (left_of source (p.block + 1)) ≡ n → All (HasChannels n) (map (frame_of source) (portion_origins p))
portion_channels source n p e = rw (sym (portion_values source p.block (range_with_len p.from (p.to - p.from)))) (All-map (HasChannels n) (overlap_frame (right_of source p.block) (left_of source (p.block + 1))) (range_with_len p.from (p.to - p.from)) (λ k d lt. length-map-range_with_len _ 0 (length (left_of source (p.block + 1))) ∙ e))

frames_cons : (source : Source) (n : ℕ) (p : Portion) (ps : List Portion) → length (left_of source (p.block + 1)) ≡ n → All (HasChannels n) (frames_at source ps) → All (HasChannels n) (frames_at source (p ∷ ps))
frames_cons source n p ps e rest = rw (map-append (frame_of source) (portion_origins p) (flat_map portion_origins ps)) (All-append (HasChannels n) (map (frame_of source) (portion_origins p)) (frames_at source ps) (portion_channels source n p e) rest)

and_left : (b c : Bool) → (b && c) ≡ true → b ≡ true
and_left true c h = refl
and_left false c h = h

span_channels : (links : List LinkFacts) (source : Source) (link left : ℕ) (s : Span) (rest : List Portion) → SpanSuits links source s → All (HasChannels (channels_in links link)) (frames_at source rest) → (b : Bool) → (nat_eq s.link link && nat_lt 0 left) ≡ b
    → All (HasChannels (channels_in links link)) (frames_at source (cond b (cut 0 left s ∷ rest) []))
span_channels links source link left s rest suits more true e =
    let same : s.link ≡ link = eqb-true s.link link (and_left (nat_eq s.link link) (nat_lt 0 left) e) in
    frames_cons source (channels_in links link) (cut 0 left s) rest (suits.left.count ∙ ap (λ (k : ℕ). channels_in links k) same) more
span_channels links source link left s rest suits more false e = All-nil (HasChannels (channels_in links link))

channels_on : (links : List LinkFacts) (source : Source) (link left : ℕ) (xs : List Item) → All (ItemSuits links source) xs → All (HasChannels (channels_in links link)) (frames_at source (portions_on link left xs))
unfolding portions_on
channels_on links source link left [] suit = All-nil (HasChannels (channels_in links link))
channels_on links source link left (variants.Gap other kind ∷ xs) suit = All-nil (HasChannels (channels_in links link))
channels_on links source link left (variants.Span s ∷ xs) suit =
    span_channels links source link left s (portions_on link (left - (s.to - s.from)) xs) (All-head (ItemSuits links source) (variants.Span s) xs suit)
    (channels_on links source link (left - (s.to - s.from)) xs (All-tail (ItemSuits links source) (variants.Span s) xs suit)) (nat_eq s.link link && nat_lt 0 left) refl

pub channels_at : (index : Indexed) (p : Position) (s : Span) (count : ℕ) (source : Source) → IsInside index.items p s → Suits index source → All (HasChannels (channels_in index.links s.link)) (frames_at source (portions_at index.items p s count))
channels_at index p s count source is suits =
    let here : SpanSuits index.links source s = at_item (ItemSuits index.links source) index.items p s is suits in
    let skip : ℕ = p.told - s.start in
    frames_cons source (channels_in index.links s.link) (cut skip count s) (portions_on s.link (count - (s.to - (s.from + skip))) (drop (p.item + 1) index.items)) here.left.count
    (channels_on index.links source s.link (count - (s.to - (s.from + skip))) (drop (p.item + 1) index.items) (All-drop (ItemSuits index.links source) (p.item + 1) index.items suits))

-- ---- frames by their values

pub length_values : (n : ℕ) (fs : List Frame) → All (HasChannels n) fs → length (values_of fs) ≡ length fs * n
length_values n [] all = omega arith
length_values n (f ∷ fs) all =
    let here : length f ≡ n = All-head (HasChannels n) f fs all in
    let rest = length_values n fs (All-tail (HasChannels n) f fs all) in
    omega (arith, length-append f (values_of fs))

parts_are : (n : ℕ) (fs : List Frame) → All (HasChannels n) fs → parts_of (length fs) n (values_of fs) ≡ fs
unfolding parts_of
parts_are n [] all = refl
parts_are n (f ∷ fs) all =
    let here : length f ≡ n = All-head (HasChannels n) f fs all in
    let first : take n (f ++ values_of fs) ≡ f = ap (λ (k : ℕ). take k (f ++ values_of fs)) (sym here) ∙ take-append_seam f (values_of fs) in
    let rest : drop n (f ++ values_of fs) ≡ values_of fs = ap (λ (k : ℕ). drop k (f ++ values_of fs)) (sym here) ∙ drop-append_seam f (values_of fs) in
    rw (first, rest) (ap (λ (gs : List Frame). f ∷ gs) (parts_are n fs (All-tail (HasChannels n) f fs all)))

pub count_of : (n : ℕ) (fs : List Frame) → 0 < n → All (HasChannels n) fs → length (values_of fs) / n ≡ length fs
count_of n fs some all = let e : length (values_of fs) ≡ n * length fs = omega (arith, length_values n fs all) in ap (λ (k : ℕ). k / n) e ∙ mul-div_cancel_left (length fs) some

pub frames_back : (n : ℕ) (fs : List Frame) → 0 < n → All (HasChannels n) fs → frames_in n (values_of fs) ≡ fs
frames_back n fs some all = ap (λ (k : ℕ). parts_of k n (values_of fs)) (count_of n fs some all) ∙ parts_are n fs all

-- ---- places behind frames of a run

place_in_link : {F : Type 0} (link g : ℕ) (xs : List (LineItem F)) → g ≤ length (frames_of_link link xs) → place_after g xs ≡ g
unfolding frames_of_link place_after
place_in_link link zero xs h = refl
place_in_link link (suc g) [] h = absurd (omega arith)
place_in_link {F} link (suc g) (frame other value ∷ xs) h =
    elim (nat_eq other link) as (λ b. suc g ≤ length (cond b (value ∷ frames_of_link link xs) []) → 1 + place_after g xs ≡ suc g) [
      | true ↦ λ le. let rest = place_in_link link g xs (omega arith) in omega arith
      | false ↦ λ le. absurd (omega arith)
    ] h
place_in_link link (suc g) (gap other kind ∷ xs) h = absurd (omega arith)

place_in_run : {F : Type 0} (g : ℕ) (xs : List (LineItem F)) → g ≤ length (run xs) → place_after g xs ≡ g
unfolding run place_after
place_in_run zero xs h = refl
place_in_run (suc g) [] h = absurd (omega arith)
place_in_run (suc g) (frame link value ∷ xs) h = let rest = place_in_link link g xs (omega arith) in omega arith
place_in_run (suc g) (gap link kind ∷ xs) h = absurd (omega arith)

pub place_behind : {F : Type 0} (place g : ℕ) (xs : List (LineItem F)) → 0 < g → g ≤ length (run_at xs place) → place_after (frame_count (take place xs) + g) xs ≡ place + g
place_behind place g xs some le =
    let fits = run_within (drop place xs) in
    let len : length (take place xs) ≡ place = omega (arith, length-take place xs, length-drop place xs) in
    let left : frame_count (take place xs) + g - frame_count (take place xs) ≡ g = omega arith in
    ap (λ ys. place_after (frame_count (take place xs) + g) ys) (sym (take-append-drop place xs))
    ∙ place_after-append (frame_count (take place xs) + g) (take place xs) (drop place xs) (omega arith)
    ∙ ap (λ (k : ℕ). length (take place xs) + place_after k (drop place xs)) left
    ∙ omega (arith, place_in_run g (drop place xs) le, len)

link_counted : {F : Type 0} (link : ℕ) (xs : List (LineItem F)) → length (frames_of_link link xs) ≤ frame_count xs
unfolding frames_of_link frame_count
link_counted link [] = omega arith
link_counted {F} link (frame other value ∷ xs) =
    elim (nat_eq other link) as (λ b. length (cond b (value ∷ frames_of_link link xs) []) ≤ 1 + frame_count xs) [
      | true ↦ let rest = link_counted link xs in omega arith
      | false ↦ omega arith
    ]
link_counted link (gap other kind ∷ xs) = omega arith

pub run_counted : {F : Type 0} (xs : List (LineItem F)) → length (run xs) ≤ frame_count xs
unfolding run frame_count
run_counted [] = omega arith
run_counted (frame link value ∷ xs) = let rest = link_counted link xs in omega arith
run_counted (gap link kind ∷ xs) = omega arith

-- ---- reads

pub read_gap : (line : List (LineItem Frame)) (st : CursorState) (count link : ℕ) (kind : GapKind) (xs : List (LineItem Frame)) → drop st.place line ≡ gap link kind ∷ xs → read line count st ≡ (replies.Gap kind, passed 1 st)
unfolding read
read_gap line st count link kind xs e = rw e refl

pub read_end : (line : List (LineItem Frame)) (st : CursorState) (count : ℕ) → drop st.place line ≡ [] → read line count st ≡ (replies.End, st)
unfolding read
read_end line st count e = rw e refl

abbrev pub answered : Reply → CursorState → Reply × CursorState
answered reply st = (reply, st)
