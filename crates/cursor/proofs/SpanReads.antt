-- What a read answers, and where the cursor is then.
use Rattle.std.proofs.Common.{◌≡◌, ℕ, ◌+◌, ◌-◌, ◌≤◌, ◌<◌, max, List, [], ◌∷◌, ◌++◌, length, map, take, drop, append-nil, refl, ap, sym, ◌∙◌, arith, Some, None}
use Rattle.std.specs.List.{All, slice_get}
use Rattle.std.proofs.lemmas.List.{length-take}
use Rattle.std.proofs.lemmas.List.FromFn.{length-map-range_with_len}
use Rattle.model_line.specs.declared.row.GapKind.{GapKind}
use Rattle.model_line.specs.declared.item.Span.{Span}
use Rattle.model_line.specs.declared.item.Item.TheVariants as variants
use Rattle.model_line.specs.Decode.{LineItem, frame}
use Rattle.model_line.specs.Origins.{Origin, origin, listed}
use Rattle.model_line.specs.Blocks.{Values, Frame}
use Rattle.model_line.specs.Index.{Indexed}
use Rattle.film_index.specs.Items.{AreIndexItems}
use Rattle.model_cursor.specs.declared.reply.Reply.TheVariants as replies
use Rattle.model_cursor.specs.Runs.{run_at}
use Rattle.model_cursor.specs.Cursors.{CursorState, next_frames, passed, read}
use Rattle.model_cursor.specs.Plans.{read_needs}
use Rattle.model_cursor.specs.Positions.{Position, IsPosition, IsCursorIn, state_in}
use Rattle.model_cursor.specs.Sources.{Source, line_from, channels_in, SpanSuits, ItemSuits, Suits, AreHalves, AreHalvesOf}
use Rattle.model_cursor.specs.Splices.{link_at}
use Rattle.model_cursor.proofs.ByOrigins.{frame_of}
use Rattle.cursor.specs.declared.portions.Portion.{Portion}
use Rattle.cursor.specs.Patches.{patched}
use Rattle.cursor.specs.Portions.{run_portions, HasChannels, frames_from}
use Rattle.cursor.proofs.Inside.{IsInside, org, span_behind, gap_behind, end_behind}
use Rattle.cursor.proofs.ReadFrames.{at_item, answered, read_gap, read_end}
use Rattle.cursor.proofs.FrameValues.{length-patched, take-patched}
use Rattle.cursor.proofs.CursorRuns.{place_of, channels_of, framed, line_behind, length-run_there, run_at_span, link_at_span, AreRun, are_run}

-- ---- the frames that are next

-- the patch of a cursor has as many channels as the frames there
pub patch_channels : (index : Indexed) (p : Position) (s : Span) (source : Source) → IsCursorIn index p → IsInside index.items p s → Suits index source → All (HasChannels (channels_of index p)) p.patch
patch_channels index p s source is inside suits =
    let here : SpanSuits index.links source s = at_item (ItemSuits index.links source) index.items p s inside suits in
    let some : 0 < channels_in index.links s.link = here.right.some in
    let link = link_at_span index p (length index.links) s inside in
    let same : channels_of index p ≡ channels_in index.links (link_at (length index.links) (listed index.items) (place_of index p)) =
    ap (λ (k : ℕ). max 1 (channels_in index.links k)) link ∙ omega arith ∙ sym (ap (λ (k : ℕ). channels_in index.links k) link) in
    rw same is.channels

pub next_patched : (index : Indexed) (p : Position) (count : ℕ) (source : Source) → AreIndexItems index → IsCursorIn index p → Suits index source
    → take count (next_frames (line_from source index.items) (state_in index.items p)) ≡ patched p.patch (take count (run_at (line_from source index.items) (place_of index p)))
unfolding next_frames
next_patched index p count source right is suits =
    let run_length = length-run_there index source (place_of index p) right suits in
    let fits : length p.patch ≤ length (run_at (listed index.items) (place_of index p)) = is.cursor.patch in
    take-patched count p.patch (run_at (line_from source index.items) (place_of index p)) (omega arith)

-- ---- a read in a span

read_here : (line : List (LineItem Frame)) (s : CursorState) (count link : ℕ) (f : Frame) (xs : List (LineItem Frame)) → drop s.place line ≡ frame link f ∷ xs → read line count s ≡ answered (replies.Frames link (take count (next_frames line s))) (passed (length (take count (next_frames line s))) s)
unfolding read
read_here line s count link f xs e = rw e refl

front_of_span : (source : Source) (link : ℕ) (os : List Origin) (rest : List (LineItem Origin)) → 0 < length os → (f : Frame) × ((xs : List (LineItem Frame)) × (map (framed source) (map (frame link) os ++ rest) ≡ frame link f ∷ xs))
front_of_span source link [] rest some = absurd (omega arith)
front_of_span source link (o ∷ os) rest some = (frame_of source o, (map (framed source) (map (frame link) os ++ rest), refl))

pub read_in_span : (index : Indexed) (p : Position) (s : Span) (count : ℕ) (source : Source) → AreIndexItems index → IsCursorIn index p → IsInside index.items p s → Suits index source
    → let given = patched p.patch (take count (run_at (line_from source index.items) (place_of index p))) in read (line_from source index.items) count (state_in index.items p) ≡ answered (replies.Frames s.link given) (passed (length given) (state_in index.items p))
read_in_span index p s count source right is inside suits =
    let skip : ℕ = p.told - s.start in
    let ahead : s.from + skip < s.to = inside.skip in
    let os : List Origin = org s.block (s.from + skip) (s.to - (s.from + skip)) in
    let len : length os ≡ s.to - (s.from + skip) = length-map-range_with_len (origin s.block (s.block + 1)) (s.from + skip) (s.to - (s.from + skip)) in
    let first = front_of_span source s.link os (listed (drop (p.item + 1) index.items)) (omega arith) in
    let behind = line_behind index source (place_of index p) right suits ∙ ap (λ (xs : List (LineItem Origin)). map (framed source) xs) (span_behind index.items p s inside) ∙ first.1.1 in
    read_here (line_from source index.items) (state_in index.items p) count s.link first.0 first.1.0 behind
    ∙ ap (λ (fs : List Frame). answered (replies.Frames s.link fs) (passed (length fs) (state_in index.items p))) (next_patched index p count source right is suits)

-- what a read in a span gives, whose frames these are without the patch
pub record AreGiven (index : Indexed) (p : Position) (s : Span) (count : ℕ) (ps : List Portion) (given : List Values) : Type 0 where
  pub some : 0 < length (patched p.patch (frames_from ps given))
  pub among : length (patched p.patch (frames_from ps given)) ≤ length (run_at (listed index.items) (place_of index p))
  pub answer : (source : Source) → AreHalvesOf index (read_needs index.items (place_of index p) count) given source
      → read (line_from source index.items) count (state_in index.items p) ≡ answered (replies.Frames s.link (patched p.patch (frames_from ps given))) (passed (length (patched p.patch (frames_from ps given))) (state_in index.items p))

pub run_of : (index : Indexed) (p : Position) (count : ℕ) (ps : List Portion) (given : List Values) (source : Source) → AreIndexItems index → IsPosition index.items p → ps ≡ run_portions index.items p count → AreHalvesOf index (read_needs index.items (place_of index p) count) given source → AreRun index p count ps given source
run_of index p count ps given source right is ps-is are = are_run index p count ps given [] source right is are.suits ps-is (are.halves ∙ sym (append-nil (map source (read_needs index.items (place_of index p) count))))

pub gives : (index : Indexed) (p : Position) (s : Span) (count : ℕ) (ps : List Portion) (given : List Values) → AreIndexItems index → IsCursorIn index p → IsInside index.items p s → 0 < count → ps ≡ run_portions index.items p count → AreHalves index (read_needs index.items (place_of index p) count) given → AreGiven index p s count ps given
gives index p s count ps given right is inside some ps-is halves =
    let source : Source = halves.0 in
    let fs : List Frame = frames_from ps given in
    let one = run_of index p count ps given source right is.position ps-is halves.1 in
    let size = length-patched p.patch fs in
    let all = ap (λ (gs : List Frame). length gs) one.frames ∙ length-take count (run_at (line_from source index.items) (place_of index p)) in
    let same = length-run_there index source (place_of index p) right halves.1.suits in
    let there = run_at_span index p s inside in
    record {
      some = omega arith;
      among = omega arith;
      answer = λ other are.
          let each = run_of index p count ps given other right is.position ps-is are in
          read_in_span index p s count other right is inside are.suits
          ∙ ap (λ (gs : List Frame). answered (replies.Frames s.link (patched p.patch gs)) (passed (length (patched p.patch gs)) (state_in index.items p))) (sym each.frames);
    }

-- ---- a gap, and the end

pub told_gap : (index : Indexed) (p : Position) (link : ℕ) (kind : GapKind) (count : ℕ) (source : Source) → AreIndexItems index → Suits index source → IsPosition index.items p → slice_get index.items p.item ≡ Some (variants.Gap link kind)
    → read (line_from source index.items) count (state_in index.items p) ≡ answered (replies.Gap kind) (passed 1 (state_in index.items p))
told_gap index p link kind count source right suits is here =
    read_gap (line_from source index.items) (state_in index.items p) count link kind (map (framed source) (listed (drop (p.item + 1) index.items)))
    (line_behind index source (place_of index p) right suits ∙ ap (λ (xs : List (LineItem Origin)). map (framed source) xs) (gap_behind index.items p link kind is here))

pub told_end : (index : Indexed) (p : Position) (count : ℕ) (source : Source) → AreIndexItems index → Suits index source → IsPosition index.items p → slice_get index.items p.item ≡ None → read (line_from source index.items) count (state_in index.items p) ≡ answered replies.End (state_in index.items p)
told_end index p count source right suits is here =
    read_end (line_from source index.items) (state_in index.items p) count
    (line_behind index source (place_of index p) right suits ∙ ap (λ (xs : List (LineItem Origin)). map (framed source) xs) (end_behind index.items p is here))
