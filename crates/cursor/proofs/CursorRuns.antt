-- The portions of a run, and what they give.
use Rattle.std.proofs.Common.{◌≡◌, ℕ, zero, suc, ◌+◌, ◌-◌, ◌*◌, ◌<◌, min, max, nat_lt, true, List, [], ◌∷◌, ◌++◌, length, map, take, drop, refl, ap, sym, ◌∙◌, arith, Option, Some, None, length-append}
use Rattle.std.specs.List.{All, slice_get, flat_map}
use Rattle.std.proofs.lemmas.Bool.{lt-ltb}
use Rattle.std.proofs.lemmas.List.{drop-map, take-map, length-map}
use Rattle.std.proofs.lemmas.List.Elements.{All-nil}
use Rattle.std.proofs.lemmas.List.FromFn.{length-map-range_with_len}
use Rattle.std.proofs.Math.Seq.{take-nil}
use Rattle.model_line.specs.declared.row.GapKind.{GapKind}
use Rattle.model_line.specs.declared.item.Span.{Span}
use Rattle.model_line.specs.declared.item.Item.{Item}
use Rattle.model_line.specs.declared.item.Item.TheVariants as variants
use Rattle.model_line.specs.Decode.{LineItem, frame, gap, frame_count}
use Rattle.model_line.specs.Origins.{Origin, origin, listed, frame_by}
use Rattle.model_line.specs.Blocks.{Values, Frame}
use Rattle.model_line.specs.Index.{Indexed}
use Rattle.film_index.specs.Items.{AreIndexItems}
use Rattle.model_cursor.specs.declared.need.Need.{Need}
use Rattle.model_cursor.specs.Runs.{run, run_at}
use Rattle.model_cursor.specs.Plans.{needs_between, read_needs}
use Rattle.model_cursor.specs.Positions.{Position, IsPosition, gaps_before}
use Rattle.model_cursor.specs.Sources.{Source, line_from, channels_in, SpanSuits, ItemSuits, Suits}
use Rattle.model_cursor.specs.Splices.{link_of_first, link_at}
use Rattle.model_cursor.proofs.ByOrigins.{frame_of, line_by, run-by}
use Rattle.cursor.specs.declared.portions.Portion.{Portion}
use Rattle.cursor.specs.Portions.{portions_here, run_portions, needs_of, portion_needs, HasNext, HasChannels, portion_frames, frames_from, FitHalves}
use Rattle.cursor.proofs.Inside.{IsInside, inside, org, portion_origins, span_behind, run_frames, run_origins, gap_behind, end_behind}
use Rattle.cursor.proofs.Needed.{needs_at, none_at, none_between}
use Rattle.cursor.proofs.ReadFrames.{frames_at, frames_given, at_item, fit_at, next_at, channels_at}

-- ---- the line by halves of blocks, from a place on

abbrev pub framed : Source → LineItem Origin → LineItem Frame
framed source = frame_by (frame_of source)

pub line_behind : (index : Indexed) (source : Source) (place : ℕ) → AreIndexItems index → Suits index source → drop place (line_from source index.items) ≡ map (framed source) (drop place (listed index.items))
line_behind index source place right suits = ap (λ (xs : List (LineItem Frame)). drop place xs) (line_by index.links source index.items right.frames suits) ∙ drop-map (framed source) place (listed index.items)

pub run_there : (index : Indexed) (source : Source) (place : ℕ) → AreIndexItems index → Suits index source → run_at (line_from source index.items) place ≡ map (frame_of source) (run_at (listed index.items) place)
run_there index source place right suits = ap (λ (xs : List (LineItem Frame)). run xs) (line_behind index source place right suits) ∙ run-by (frame_of source) (drop place (listed index.items))

pub length-run_there : (index : Indexed) (source : Source) (place : ℕ) → AreIndexItems index → Suits index source → length (run_at (line_from source index.items) place) ≡ length (run_at (listed index.items) place)
length-run_there index source place right suits = ap (λ (fs : List Frame). length fs) (run_there index source place right suits) ∙ length-map (run_at (listed index.items) place) (frame_of source)

link_by : (source : Source) (last : ℕ) (xs : List (LineItem Origin)) → link_of_first last (map (framed source) xs) ≡ link_of_first last xs
link_by source last [] = refl
link_by source last (frame link value ∷ xs) = refl
link_by source last (gap link kind ∷ xs) = refl

pub link_there : (index : Indexed) (source : Source) (links place : ℕ) → AreIndexItems index → Suits index source → link_at links (line_from source index.items) place ≡ link_at links (listed index.items) place
link_there index source links place right suits = ap (λ (xs : List (LineItem Frame)). link_of_first (links - 1) xs) (line_behind index source place right suits) ∙ link_by source (links - 1) (drop place (listed index.items))

-- ---- what is at a position

link_front : (last link : ℕ) (os : List Origin) (rest : List (LineItem Origin)) → 0 < length os → link_of_first last (map (frame link) os ++ rest) ≡ link
link_front last link [] rest some = absurd (omega arith)
link_front last link (o ∷ os) rest some = refl

abbrev pub place_of : Indexed → Position → ℕ
place_of index p = p.told + gaps_before index.items p.item

pub link_at_end : (index : Indexed) (p : Position) (links : ℕ) → IsPosition index.items p → slice_get index.items p.item ≡ None → link_at links (listed index.items) (place_of index p) ≡ links - 1
link_at_end index p links is e = ap (λ (xs : List (LineItem Origin)). link_of_first (links - 1) xs) (end_behind index.items p is e)

pub link_at_gap : (index : Indexed) (p : Position) (links link : ℕ) (kind : GapKind) → IsPosition index.items p → slice_get index.items p.item ≡ Some (variants.Gap link kind) → link_at links (listed index.items) (place_of index p) ≡ link
link_at_gap index p links link kind is e = ap (λ (xs : List (LineItem Origin)). link_of_first (links - 1) xs) (gap_behind index.items p link kind is e)

pub link_at_span : (index : Indexed) (p : Position) (links : ℕ) (s : Span) → IsInside index.items p s → link_at links (listed index.items) (place_of index p) ≡ s.link
link_at_span index p links s is =
    let skip : ℕ = p.told - s.start in
    let ahead : s.from + skip < s.to = is.skip in
    let os : List Origin = org s.block (s.from + skip) (s.to - (s.from + skip)) in
    let len : length os ≡ s.to - (s.from + skip) = length-map-range_with_len (origin s.block (s.block + 1)) (s.from + skip) (s.to - (s.from + skip)) in
    ap (λ (xs : List (LineItem Origin)). link_of_first (links - 1) xs) (span_behind index.items p s is)
    ∙ link_front (links - 1) s.link os (listed (drop (p.item + 1) index.items)) (omega arith)

pub run_at_end : (index : Indexed) (p : Position) → IsPosition index.items p → slice_get index.items p.item ≡ None → run_at (listed index.items) (place_of index p) ≡ []
unfolding run
run_at_end index p is e = ap (λ (xs : List (LineItem Origin)). run xs) (end_behind index.items p is e)

pub run_at_gap : (index : Indexed) (p : Position) (link : ℕ) (kind : GapKind) → IsPosition index.items p → slice_get index.items p.item ≡ Some (variants.Gap link kind) → run_at (listed index.items) (place_of index p) ≡ []
unfolding run
run_at_gap index p link kind is e = ap (λ (xs : List (LineItem Origin)). run xs) (gap_behind index.items p link kind is e)

pub run_at_span : (index : Indexed) (p : Position) (s : Span) → IsInside index.items p s → 0 < length (run_at (listed index.items) (place_of index p))
run_at_span index p s is =
    let skip : ℕ = p.told - s.start in
    let ahead : s.from + skip < s.to = is.skip in
    let os : List Origin = org s.block (s.from + skip) (s.to - (s.from + skip)) in
    let len : length os ≡ s.to - (s.from + skip) = length-map-range_with_len (origin s.block (s.block + 1)) (s.from + skip) (s.to - (s.from + skip)) in
    let all = ap (λ (xs : List (LineItem Origin)). length (run xs)) (span_behind index.items p s is) ∙ ap (λ (fs : List Origin). length fs) (run_frames s.link os (listed (drop (p.item + 1) index.items)) (omega arith)) in
    omega (arith, all, length-append {A = Origin})

-- ---- what the portions of a run need

needs_by : (index : Indexed) (p : Position) (count : ℕ) → AreIndexItems index → IsPosition index.items p → (o : Option Item) → slice_get index.items p.item ≡ o → needs_of (portions_here o index.items p count) ≡ read_needs index.items (place_of index p) count
unfolding needs_between
needs_by index p count right is None e = sym (none_at index.items (place_of index p) count (run_at_end index p is e))
needs_by index p count right is (Some (variants.Gap link kind)) e = sym (none_at index.items (place_of index p) count (run_at_gap index p link kind is e))
needs_by index p zero right is (Some (variants.Span s)) e =
    let from : ℕ = frame_count (take (place_of index p) (listed index.items)) in
    sym (none_between from (from + min 0 (length (run_at (listed index.items) (place_of index p)))) index.items (omega arith))
needs_by index p (suc count) right is (Some (variants.Span s)) e = let test : nat_lt 0 (suc count) ≡ true = lt-ltb 0 (suc count) (omega arith) in rw test (needs_at index p s (suc count) right is (inside index p s right is e) (omega arith))

pub run_needs : (index : Indexed) (p : Position) (count : ℕ) → AreIndexItems index → IsPosition index.items p → needs_of (run_portions index.items p count) ≡ read_needs index.items (place_of index p) count
run_needs index p count right is = needs_by index p count right is (slice_get index.items p.item) refl

have_next_by : (index : Indexed) (p : Position) (count : ℕ) → AreIndexItems index → IsPosition index.items p → (o : Option Item) → slice_get index.items p.item ≡ o → All HasNext (portions_here o index.items p count)
have_next_by index p count right is None e = All-nil HasNext
have_next_by index p count right is (Some (variants.Gap link kind)) e = All-nil HasNext
have_next_by index p zero right is (Some (variants.Span s)) e = All-nil HasNext
have_next_by index p (suc count) right is (Some (variants.Span s)) e = let test : nat_lt 0 (suc count) ≡ true = lt-ltb 0 (suc count) (omega arith) in rw test (next_at index p s (suc count) right (inside index p s right is e))

pub have_next : (index : Indexed) (p : Position) (count : ℕ) → AreIndexItems index → IsPosition index.items p → All HasNext (run_portions index.items p count)
have_next index p count right is = have_next_by index p count right is (slice_get index.items p.item) refl

pub length-needs_of : (ps : List Portion) → length (needs_of ps) ≡ 2 * length ps
length-needs_of [] = refl
length-needs_of (p ∷ ps) = let rest = length-needs_of ps in omega (arith, rest, length-append (portion_needs p) (needs_of ps))

-- ---- what they give

origins_by : (index : Indexed) (p : Position) (count : ℕ) → AreIndexItems index → IsPosition index.items p → (o : Option Item) → slice_get index.items p.item ≡ o → take count (run_at (listed index.items) (place_of index p)) ≡ flat_map portion_origins (portions_here o index.items p count)
origins_by index p count right is None e = ap (λ (fs : List Origin). take count fs) (run_at_end index p is e) ∙ take-nil count
origins_by index p count right is (Some (variants.Gap link kind)) e = ap (λ (fs : List Origin). take count fs) (run_at_gap index p link kind is e) ∙ take-nil count
origins_by index p zero right is (Some (variants.Span s)) e = refl
origins_by index p (suc count) right is (Some (variants.Span s)) e = let test : nat_lt 0 (suc count) ≡ true = lt-ltb 0 (suc count) (omega arith) in rw test (run_origins index.items p s (suc count) right.frames (inside index p s right is e))

pub given_frames : (index : Indexed) (p : Position) (count : ℕ) (source : Source) → AreIndexItems index → IsPosition index.items p → Suits index source → frames_at source (run_portions index.items p count) ≡ take count (run_at (line_from source index.items) (place_of index p))
given_frames index p count source right is suits =
    ap (λ (os : List Origin). map (frame_of source) os) (sym (origins_by index p count right is (slice_get index.items p.item) refl))
    ∙ sym (take-map (frame_of source) count (run_at (listed index.items) (place_of index p)))
    ∙ ap (λ (fs : List Frame). take count fs) (sym (run_there index source (place_of index p) right suits))

fit_by : (index : Indexed) (p : Position) (count : ℕ) (source : Source) → AreIndexItems index → IsPosition index.items p → Suits index source → (o : Option Item) → slice_get index.items p.item ≡ o → FitHalves (portions_here o index.items p count) (map source (needs_of (portions_here o index.items p count)))
unfolding FitHalves
fit_by index p count source right is suits None e = tt
fit_by index p count source right is suits (Some (variants.Gap link kind)) e = tt
fit_by index p zero source right is suits (Some (variants.Span s)) e = tt
fit_by index p (suc count) source right is suits (Some (variants.Span s)) e = let test : nat_lt 0 (suc count) ≡ true = lt-ltb 0 (suc count) (omega arith) in rw test (fit_at index p s (suc count) source right (inside index p s right is e) suits)

-- how many channels the frames at a position have; where there is no link, one is as good as any
abbrev pub channels_of : Indexed → Position → ℕ
channels_of index p = max 1 (channels_in index.links (link_at (length index.links) (listed index.items) (place_of index p)))

each_by : (index : Indexed) (p : Position) (count : ℕ) (source : Source) → AreIndexItems index → IsPosition index.items p → Suits index source → (o : Option Item) → slice_get index.items p.item ≡ o → All (HasChannels (channels_of index p)) (frames_at source (portions_here o index.items p count))
each_by index p count source right is suits None e = All-nil (HasChannels (channels_of index p))
each_by index p count source right is suits (Some (variants.Gap link kind)) e = All-nil (HasChannels (channels_of index p))
each_by index p zero source right is suits (Some (variants.Span s)) e = All-nil (HasChannels (channels_of index p))
each_by index p (suc count) source right is suits (Some (variants.Span s)) e =
    let within = inside index p s right is e in
    let here : SpanSuits index.links source s = at_item (ItemSuits index.links source) index.items p s within suits in
    let some : 0 < channels_in index.links s.link = here.right.some in
    let same : channels_of index p ≡ channels_in index.links s.link = ap (λ (k : ℕ). max 1 (channels_in index.links k)) (link_at_span index p (length index.links) s within) ∙ omega arith in
    let test : nat_lt 0 (suc count) ≡ true = lt-ltb 0 (suc count) (omega arith) in
    rw (test, same) (channels_at index p s (suc count) source within suits)

pub run_each : (index : Indexed) (p : Position) (count : ℕ) (source : Source) → AreIndexItems index → IsPosition index.items p → Suits index source → All (HasChannels (channels_of index p)) (take count (run_at (line_from source index.items) (place_of index p)))
run_each index p count source right is suits = rw (sym (given_frames index p count source right is suits)) (each_by index p count source right is suits (slice_get index.items p.item) refl)

-- ---- by halves that are given, and others behind them

fit_more : (ps : List Portion) (given more : List Values) → FitHalves ps given → FitHalves ps (given ++ more)
unfolding FitHalves
fit_more [] given more fit = tt
fit_more (p ∷ ps) [] more fit = absurd fit
fit_more (p ∷ ps) (r ∷ []) more fit = absurd fit
fit_more (p ∷ ps) (r ∷ l ∷ given) more fit = (fit.0, fit_more ps given more fit.1)

frames_more : (ps : List Portion) (given more : List Values) → FitHalves ps given → frames_from ps (given ++ more) ≡ frames_from ps given
unfolding FitHalves frames_from
frames_more [] given more fit = none given more
  where
    none : (given more : List Values) → frames_from [] (given ++ more) ≡ frames_from [] given
    none given more = refl
frames_more (p ∷ ps) [] more fit = absurd fit
frames_more (p ∷ ps) (r ∷ []) more fit = absurd fit
frames_more (p ∷ ps) (r ∷ l ∷ given) more fit = ap (λ (fs : List Frame). portion_frames r l p ++ fs) (frames_more ps given more fit.1)

-- what the portions of a run give with halves, of which the first are those that they need
pub record AreRun (index : Indexed) (p : Position) (count : ℕ) (ps : List Portion) (given : List Values) (source : Source) : Type 0 where
  pub fit : FitHalves ps given
  pub frames : frames_from ps given ≡ take count (run_at (line_from source index.items) (place_of index p))
  pub each : All (HasChannels (channels_of index p)) (frames_from ps given)

pub are_run : (index : Indexed) (p : Position) (count : ℕ) (ps : List Portion) (given more : List Values) (source : Source) → AreIndexItems index → IsPosition index.items p → Suits index source → ps ≡ run_portions index.items p count → given ≡ map source (read_needs index.items (place_of index p) count) ++ more
    → AreRun index p count ps given source
are_run index p count ps given more source right is suits ps-is given-is =
    let pa : List Portion = run_portions index.items p count in
    let halves : List Values = map source (needs_of pa) in
    let same : given ≡ halves ++ more = given-is ∙ ap (λ (ns : List Need). map source ns ++ more) (sym (run_needs index p count right is)) in
    let fit = fit_by index p count source right is suits (slice_get index.items p.item) refl in
    let all : frames_from ps given ≡ frames_at source pa = ap (λ (qs : List Portion). frames_from qs given) ps-is ∙ ap (λ (hs : List Values). frames_from pa hs) same ∙ frames_more pa halves more fit ∙ frames_given source pa in
    record {
      fit = rw (ps-is, same) (fit_more pa halves more fit);
      frames = all ∙ given_frames index p count source right is suits;
      each = rw all (each_by index p count source right is suits (slice_get index.items p.item) refl);
    }
