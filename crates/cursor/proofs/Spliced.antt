-- Splices, as the code makes them.
use Rattle.std.proofs.Common.{◌≡◌, ℕ, zero, suc, ◌+◌, ◌-◌, ◌*◌, ◌/◌, ◌≤◌, ◌<◌, min, max, inl, inr, true, false, nat_lt, List, [], ◌∷◌, ◌++◌, length, map, take, drop, refl, ap, sym, ◌∙◌, arith, Option, Some, None, append-nil, length-append}
use Rattle.std.specs.Prelude.{slice_index}
use Rattle.std.specs.List.{All, slice_get}
use Rattle.std.proofs.lemmas.Bool.{cases_lt, lt-ltb, le-ltb, ltb-false}
use Rattle.std.proofs.lemmas.List.{length-take, length-map, map-append}
use Rattle.std.proofs.lemmas.List.Elements.{All-nil, All-cons, All-head, All-tail}
use Rattle.std.proofs.Math.Seq.{take-nil, drop-append_seam}
use Rattle.model_synthesis.specs.Tables.{ConstantTables}
use Rattle.model_line.specs.declared.item.Item.{Item}
use Rattle.model_line.specs.declared.item.Item.TheVariants as variants
use Rattle.model_line.specs.declared.item.LinkFacts.{LinkFacts}
use Rattle.model_line.specs.Decode.{LineItem, frame, gap, frame_count}
use Rattle.model_line.specs.Origins.{Origin, origins_of, item_frames, listed, line_of, HasFrame}
use Rattle.model_line.specs.Blocks.{Values, overlap, Frame}
use Rattle.model_line.specs.Index.{Indexed}
use Rattle.film_index.specs.Items.{AreIndexItems}
use Rattle.model_cursor.specs.declared.need.Need.{Need}
use Rattle.model_cursor.specs.declared.reply.Sought.{Sought}
use Rattle.model_cursor.specs.declared.reply.Sought.TheVariants as answers
use Rattle.model_cursor.specs.Runs.{run_at}
use Rattle.model_cursor.specs.Cursors.{CursorState, next_frames, place_after, old_side}
use Rattle.model_cursor.specs.Plans.{shorts_of, splicing_of, read_needs, splice_needs}
use Rattle.model_cursor.specs.Positions.{Position, IsPosition, IsCursorIn, state_in}
use Rattle.model_cursor.specs.Sources.{Source, right_of, left_of, line_from, channels_in, SpanSuits, ItemSuits, Suits}
use Rattle.model_cursor.specs.Splices.{Splicing, link_at, short_at, splice_len, mixed_frame, mixed_from, splice, lap, weight}
use Rattle.model_cursor.proofs.ByOrigins.{line_by}
use Rattle.cursor.specs.declared.portions.Portion.{Portion}
use Rattle.cursor.specs.Patches.{patched}
use Rattle.cursor.specs.Portions.{run_portions, HasChannels, frames_from}
use Rattle.cursor.proofs.Inside.{inside}
use Rattle.cursor.proofs.ReadFrames.{at_item}
use Rattle.cursor.proofs.MixSteps.{filled}
use Rattle.cursor.proofs.Planned.{len_of_splice, both_sides}
use Rattle.cursor.proofs.CursorStates.{none_of}
use Rattle.cursor.proofs.CursorRuns.{place_of, channels_of, framed, length-run_there, link_there, run_at_end, run_at_gap, link_at_span, run_needs, length-needs_of, run_each, AreRun, are_run}
use Rattle.cursor.proofs.SpanReads.{patch_channels, next_patched}

-- ---- mixed frames

length-mixed_frame : (tables : ConstantTables) (w : ℕ) (old new : Frame) → length (mixed_frame tables w old new) ≡ length new
unfolding mixed_frame
length-mixed_frame tables w old [] = refl
length-mixed_frame tables w [] (d ∷ new) = ap (λ (k : ℕ). suc k) (length-mixed_frame tables w [] new)
length-mixed_frame tables w (s ∷ old) (d ∷ new) = ap (λ (k : ℕ). suc k) (length-mixed_frame tables w old new)

pub mixed_each : (tables : ConstantTables) (frames i n : ℕ) (old new : List Frame) → All (HasChannels n) new → All (HasChannels n) (mixed_from tables frames i old new)
unfolding mixed_from
mixed_each tables frames i n [] new each = All-nil (HasChannels n)
mixed_each tables frames i n (s ∷ old) [] each = All-nil (HasChannels n)
mixed_each tables frames i n (s ∷ old) (d ∷ new) each = All-cons (HasChannels n) (mixed_frame tables (weight tables frames i) s d) (mixed_from tables frames (i + 1) old new)
    (length-mixed_frame tables (weight tables frames i) s d ∙ All-head (HasChannels n) d new each) (mixed_each tables frames (i + 1) n old new (All-tail (HasChannels n) d new each))

length-mixed_from : (tables : ConstantTables) (frames i : ℕ) (old new : List Frame) → length (mixed_from tables frames i old new) ≤ length new
unfolding mixed_from
length-mixed_from tables frames i [] new = omega arith
length-mixed_from tables frames i (s ∷ old) [] = omega arith
length-mixed_from tables frames i (s ∷ old) (d ∷ new) = let rest = length-mixed_from tables frames (i + 1) old new in omega arith

no_new : (tables : ConstantTables) (frames i : ℕ) (old : List Frame) → mixed_from tables frames i old [] ≡ []
unfolding mixed_from
no_new tables frames i [] = refl
no_new tables frames i (s ∷ old) = refl

-- ---- splices

pub splice_fits : (by : Splicing) (line : List (LineItem Frame)) (s : CursorState) (new : ℕ) → length (splice by line s new) ≤ length (run_at line new)
unfolding splice
splice_fits by line s new =
    let frames : ℕ = splice_len by.shorts line s.place new in
    omega (arith, length-mixed_from by.tables frames 0 (old_side frames line s) (take frames (run_at line new)), length-take frames (run_at line new))

splice_each : (by : Splicing) (line : List (LineItem Frame)) (s : CursorState) (new n : ℕ) → ((count : ℕ) → All (HasChannels n) (take count (run_at line new))) → All (HasChannels n) (splice by line s new)
unfolding splice
splice_each by line s new n each =
    let frames : ℕ = splice_len by.shorts line s.place new in
    mixed_each by.tables frames 0 n (old_side frames line s) (take frames (run_at line new)) (each frames)

no_splice : (by : Splicing) (line : List (LineItem Frame)) (s : CursorState) (new : ℕ) → run_at line new ≡ [] → splice by line s new ≡ []
unfolding splice
no_splice by line s new none =
    let frames : ℕ = splice_len by.shorts line s.place new in
    ap (λ (fs : List Frame). mixed_from by.tables frames 0 (old_side frames line s) (take frames fs)) none
    ∙ ap (λ (fs : List Frame). mixed_from by.tables frames 0 (old_side frames line s) fs) (take-nil frames)
    ∙ no_new by.tables frames 0 (old_side frames line s)

-- where no frame is at the new place, the splice is empty
pub splice_empty : (tables : ConstantTables) (index : Indexed) (p q : Position) (source : Source) → AreIndexItems index → Suits index source → nat_lt 0 (length (run_at (listed index.items) (place_of index q))) ≡ false
    → splice (splicing_of tables index) (line_from source index.items) (state_in index.items p) (place_of index q) ≡ []
splice_empty tables index p q source right suits test =
    let same = length-run_there index source (place_of index q) right suits in
    let none : length (run_at (listed index.items) (place_of index q)) ≤ 0 = ltb-false 0 (length (run_at (listed index.items) (place_of index q))) test in
    no_splice (splicing_of tables index) (line_from source index.items) (state_in index.items p) (place_of index q) (none_of (run_at (line_from source index.items) (place_of index q)) (omega arith))

-- ---- channels

-- where a frame is, its link has channels
channels_by : (index : Indexed) (q : Position) (source : Source) → AreIndexItems index → IsPosition index.items q → Suits index source → 0 < length (run_at (listed index.items) (place_of index q)) → (o : Option Item) → slice_get index.items q.item ≡ o
    → channels_of index q ≡ channels_in index.links (link_at (length index.links) (listed index.items) (place_of index q))
channels_by index q source right is suits some None e = absurd (let none = ap (λ (fs : List Origin). length fs) (run_at_end index q is e) in omega arith)
channels_by index q source right is suits some (Some (variants.Gap link kind)) e = absurd (let none = ap (λ (fs : List Origin). length fs) (run_at_gap index q link kind is e) in omega arith)
channels_by index q source right is suits some (Some (variants.Span s)) e =
    let within = inside index q s right is e in
    let here : SpanSuits index.links source s = at_item (ItemSuits index.links source) index.items q s within suits in
    let many : 0 < channels_in index.links s.link = here.right.some in
    let link = link_at_span index q (length index.links) s within in
    ap (λ (k : ℕ). max 1 (channels_in index.links k)) link ∙ omega arith ∙ sym (ap (λ (k : ℕ). channels_in index.links k) link)

-- the patch of a cursor has as many channels as the frames there
patch_by : (index : Indexed) (p : Position) (source : Source) → AreIndexItems index → IsCursorIn index p → Suits index source → (o : Option Item) → slice_get index.items p.item ≡ o → All (HasChannels (channels_of index p)) p.patch
patch_by index p source right is suits None e =
    let few : length p.patch ≤ length (run_at (listed index.items) (place_of index p)) = is.cursor.patch in
    rw (none_of p.patch (omega (arith, few, ap (λ (fs : List Origin). length fs) (run_at_end index p is.position e)))) (All-nil (HasChannels (channels_of index p)))
patch_by index p source right is suits (Some (variants.Gap link kind)) e =
    let few : length p.patch ≤ length (run_at (listed index.items) (place_of index p)) = is.cursor.patch in
    rw (none_of p.patch (omega (arith, few, ap (λ (fs : List Origin). length fs) (run_at_gap index p link kind is.position e)))) (All-nil (HasChannels (channels_of index p)))
patch_by index p source right is suits (Some (variants.Span s)) e = patch_channels index p s source is (inside index p s right is.position e) suits

pub patch_each : (index : Indexed) (p : Position) (source : Source) → AreIndexItems index → IsCursorIn index p → Suits index source → All (HasChannels (channels_of index p)) p.patch
patch_each index p source right is suits = patch_by index p source right is suits (slice_get index.items p.item) refl

-- a splice has as many channels as the frames at the new place
pub splice_channels : (by : Splicing) (index : Indexed) (s : CursorState) (q : Position) (source : Source) → AreIndexItems index → IsPosition index.items q → Suits index source → 0 < length (run_at (listed index.items) (place_of index q))
    → All (HasChannels (channels_in index.links (link_at (length index.links) (listed index.items) (place_of index q)))) (splice by (line_from source index.items) s (place_of index q))
splice_channels by index s q source right is suits some =
    let same = channels_by index q source right is suits some (slice_get index.items q.item) refl in
    rw (sym same) (splice_each by (line_from source index.items) s (place_of index q) (channels_of index q) (λ count. run_each index q count source right is suits))

-- ---- both sides of a splice, by the halves that it needs

pub record AreSides (index : Indexed) (p q : Position) (frames : ℕ) (first second : List Portion) (given : List Values) (source : Source) : Type 0 where
  pub old : AreRun index p frames first given source
  pub fresh : AreRun index q frames second (drop (2 * length first) given) source
  pub few : 2 * length first ≤ length given

pub are_sides : (index : Indexed) (p q : Position) (frames : ℕ) (first second : List Portion) (given : List Values) (source : Source) → AreIndexItems index → IsPosition index.items p → IsPosition index.items q → Suits index source
    → nat_lt 0 (length (run_at (listed index.items) (place_of index q))) ≡ true → frames ≡ len_of_splice index p q → first ≡ run_portions index.items p frames → second ≡ run_portions index.items q frames → given ≡ map source (splice_needs index (place_of index p) (place_of index q))
    → AreSides index p q frames first second given source
are_sides index p q frames first second given source right at there suits test frames-is first-is second-is given-is =
    let a : List Need = read_needs index.items (place_of index p) frames in
    let b : List Need = read_needs index.items (place_of index q) frames in
    let both : splice_needs index (place_of index p) (place_of index q) ≡ a ++ b = both_sides index p q test ∙ ap (λ (k : ℕ). read_needs index.items (place_of index p) k ++ read_needs index.items (place_of index q) k) (sym frames-is) in
    let split : given ≡ map source a ++ map source b = given-is ∙ ap (λ (ns : List Need). map source ns) both ∙ map-append source a b in
    let count : length (map source a) ≡ 2 * length first =
    length-map a source ∙ ap (λ (ns : List Need). length ns) (sym (run_needs index p frames right at)) ∙ length-needs_of (run_portions index.items p frames) ∙ ap (λ (ps : List Portion). 2 * length ps) (sym first-is) in
    let rest : drop (2 * length first) given ≡ map source b = ap (λ (k : ℕ). drop k given) (sym count) ∙ ap (λ (hs : List Values). drop (length (map source a)) hs) split ∙ drop-append_seam (map source a) (map source b) in
    let all = ap (λ (hs : List Values). length hs) split in
    record {
      old = are_run index p frames first given (map source b) source right at suits first-is split;
      fresh = are_run index q frames second (drop (2 * length first) given) [] source right there suits second-is (rest ∙ sym (append-nil (map source b)));
      few = omega (arith, all, count, length-append (map source a) (map source b));
    }

len_there : (index : Indexed) (source : Source) (shorts : List ℕ) (old new : ℕ) → AreIndexItems index → Suits index source → splice_len shorts (line_from source index.items) old new ≡ splice_len shorts (listed index.items) old new
unfolding splice_len
len_there index source shorts old new right suits =
    ap (λ (k : ℕ). min (slice_index shorts k) (short_at shorts (line_from source index.items) new) / 2) (link_there index source (length shorts) old right suits)
    ∙ ap (λ (k : ℕ). min (short_at shorts (listed index.items) old) (slice_index shorts k) / 2) (link_there index source (length shorts) new right suits)

pub spliced : (tables : ConstantTables) (index : Indexed) (p q : Position) (frames : ℕ) (first second : List Portion) (given : List Values) (source : Source) (old fresh : List Frame) → AreIndexItems index → IsCursorIn index p → Suits index source
    → frames ≡ len_of_splice index p q → AreSides index p q frames first second given source → old ≡ patched p.patch (frames_from first given) → fresh ≡ frames_from second (drop (2 * length first) given)
    → mixed_from tables frames 0 (filled frames old) fresh ≡ splice (splicing_of tables index) (line_from source index.items) (state_in index.items p) (place_of index q)
unfolding splice old_side
spliced tables index p q frames first second given source old fresh right is suits frames-is sides old-is fresh-is =
    let line : List (LineItem Frame) = line_from source index.items in
    let same : frames ≡ splice_len (shorts_of index.links) line (place_of index p) (place_of index q) = frames-is ∙ sym (len_there index source (shorts_of index.links) (place_of index p) (place_of index q) right suits) in
    let before : old ≡ take frames (next_frames line (state_in index.items p)) = old-is ∙ ap (λ (fs : List Frame). patched p.patch fs) sides.old.frames ∙ sym (next_patched index p frames source right is suits) in
    let after : fresh ≡ take frames (run_at line (place_of index q)) = fresh-is ∙ sides.fresh.frames in
    ap (λ (fs : List Frame). mixed_from tables frames 0 (filled frames fs) fresh) before
    ∙ ap (λ (fs : List Frame). mixed_from tables frames 0 (filled frames (take frames (next_frames line (state_in index.items p)))) fs) after
    ∙ ap (λ (k : ℕ). mixed_from tables k 0 (filled k (take k (next_frames line (state_in index.items p)))) (take k (run_at line (place_of index q)))) same

-- ---- laps

-- the line by halves of blocks is the line by origins, of any items
item_any : (links : List LinkFacts) (source : Source) (x : Item) → ItemSuits links source x → item_frames overlap (right_of source) (left_of source) x ≡ map (framed source) (origins_of x)
unfolding line_of listed
item_any links source (variants.Gap link kind) suits = refl
item_any links source (variants.Span s) suits = elim (cases_lt s.from s.to) [
  | inl lt ↦
      let x : Item = variants.Span s in
      let one = line_by links source (x ∷ []) (All-cons HasFrame x [] lt (All-nil HasFrame)) (All-cons (ItemSuits links source) x [] suits (All-nil (ItemSuits links source))) in
      sym (append-nil (item_frames overlap (right_of source) (left_of source) x)) ∙ one ∙ ap (λ (xs : List (LineItem Origin)). map (framed source) xs) (append-nil (origins_of x))
  | inr le ↦ let none : s.to - s.from ≡ 0 = omega arith in rw none refl
]

line_any : (links : List LinkFacts) (source : Source) (xs : List Item) → All (ItemSuits links source) xs → line_from source xs ≡ map (framed source) (listed xs)
unfolding line_of listed
line_any links source [] suits = refl
line_any links source (x ∷ xs) suits =
    ap (λ (ys : List (LineItem Frame)). ys ++ line_from source xs) (item_any links source x (All-head (ItemSuits links source) x xs suits))
    ∙ ap (λ (ys : List (LineItem Frame)). map (framed source) (origins_of x) ++ ys) (line_any links source xs (All-tail (ItemSuits links source) x xs suits))
    ∙ sym (map-append (framed source) (origins_of x) (listed xs))

count_by : (source : Source) (xs : List (LineItem Origin)) → frame_count (map (framed source) xs) ≡ frame_count xs
unfolding frame_count
count_by source [] = refl
count_by source (frame link o ∷ xs) = ap (λ (k : ℕ). 1 + k) (count_by source xs)
count_by source (gap link kind ∷ xs) = count_by source xs

after_by : (source : Source) (frames : ℕ) (xs : List (LineItem Origin)) → place_after frames (map (framed source) xs) ≡ place_after frames xs
unfolding place_after
after_by source zero xs = refl
after_by source (suc frames) [] = refl
after_by source (suc frames) (frame link o ∷ xs) = ap (λ (k : ℕ). 1 + k) (after_by source frames xs)
after_by source (suc frames) (gap link kind ∷ xs) = ap (λ (k : ℕ). 1 + k) (after_by source (suc frames) xs)

abbrev pub sought : Sought → CursorState → Sought × CursorState
sought answer s = (answer, s)

pub lap_past : (by : Splicing) (index : Indexed) (frames total : ℕ) (s : CursorState) (source : Source) → Suits index source → total ≡ frame_count (listed index.items) → total < frames → lap by (line_from source index.items) frames s ≡ sought (answers.Invalid total) s
unfolding lap
lap_past by index frames total s source suits total-is past =
    let count : frame_count (line_from source index.items) ≡ total = ap (λ (xs : List (LineItem Frame)). frame_count xs) (line_any index.links source index.items suits) ∙ count_by source (listed index.items) ∙ sym total-is in
    let test : nat_lt (frame_count (line_from source index.items)) frames ≡ true = lt-ltb (frame_count (line_from source index.items)) frames (omega arith) in
    rw (test, count) refl

pub lap_within : (by : Splicing) (index : Indexed) (frames : ℕ) (s new : CursorState) (source : Source) → Suits index source → frames ≤ frame_count (listed index.items) → new.place ≡ place_after frames (listed index.items)
    → lap by (line_from source index.items) frames s ≡ sought (answers.At frames) (record { place = new.place; patch = splice by (line_from source index.items) s new.place })
unfolding lap
lap_within by index frames s new source suits within place-is =
    let line : List (LineItem Frame) = line_from source index.items in
    let count : frame_count line ≡ frame_count (listed index.items) = ap (λ (xs : List (LineItem Frame)). frame_count xs) (line_any index.links source index.items suits) ∙ count_by source (listed index.items) in
    let test : nat_lt (frame_count line) frames ≡ false = le-ltb (frame_count line) frames (omega arith) in
    let place : place_after frames line ≡ new.place = ap (λ (xs : List (LineItem Frame)). place_after frames xs) (line_any index.links source index.items suits) ∙ after_by source frames (listed index.items) ∙ sym place-is in
    rw test (ap (λ (k : ℕ). sought (answers.At frames) (record { place = k; patch = splice by line s k })) place)
