-- The line by halves of blocks is the line by origins, each origin standing for its frame.
use Rattle.std.proofs.Common.{◌≡◌, ℕ, ◌+◌, ◌-◌, ◌*◌, ◌≤◌, ◌<◌, nat_eq, true, false, cond, List, [], ◌∷◌, map, take, drop, refl, ap, sym, ◌∙◌, arith}
use Rattle.std.specs.Prelude.{slice_range}
use Rattle.std.specs.List.{All, range_with_len}
use Rattle.std.proofs.lemmas.List.{map-append}
use Rattle.model_line.proofs.Windows.{window}
use Rattle.std.proofs.lemmas.List.Elements.{All-head, All-tail}
use Rattle.model_line.specs.declared.item.Item.{Item}
use Rattle.model_line.specs.declared.item.Item.TheVariants as variants
use Rattle.model_line.specs.declared.item.LinkFacts.{LinkFacts}
use Rattle.model_line.specs.Decode.{LineItem, frame, gap}
use Rattle.model_line.specs.Origins.{Origin, origin, origins_of, listed, item_frames, line_of, overlap_len, HasFrame, frame_by}
use Rattle.model_line.specs.Blocks.{Values, len_of, overlap_frame, overlap, Frame}
use Rattle.model_cursor.specs.Runs.{frames_of_link, run}
use Rattle.model_cursor.specs.Sources.{Source, right_of, left_of, line_from, ItemSuits}

-- the frame of an origin
abbrev pub frame_of : Source → Origin → Frame
frame_of source o = overlap_frame (right_of source o.first) (left_of source o.second) o.number

-- ---- spans

span_values : (source : Source) (link first second : ℕ) (ns : List ℕ) → map (frame link) (map (overlap_frame (right_of source first) (left_of source second)) ns) ≡ map (frame_by (frame_of source)) (map (frame link) (map (origin first second) ns))
span_values source link first second [] = refl
span_values source link first second (n ∷ ns) = ap (λ xs. frame link (overlap_frame (right_of source first) (left_of source second) n) ∷ xs) (span_values source link first second ns)

item_by : (links : List LinkFacts) (source : Source) (x : Item) → HasFrame x → ItemSuits links source x → item_frames overlap (right_of source) (left_of source) x ≡ map (frame_by (frame_of source)) (origins_of x)
unfolding overlap
item_by links source (variants.Gap link kind) has suits = refl
item_by links source (variants.Span s) has suits =
    let right : Values = right_of source s.block in
    let left : Values = left_of source (s.block + 1) in
    let within : s.to ≤ overlap_len (2 * len_of right) (2 * len_of left) = suits.within in
    let less : s.from < s.to = has in
    ap (map (frame s.link)) (window (overlap_frame right left) (overlap_len (2 * len_of right) (2 * len_of left)) s.from s.to (omega arith) within)
    ∙ span_values source s.link s.block (s.block + 1) (range_with_len s.from (s.to - s.from))

pub line_by : (links : List LinkFacts) (source : Source) (xs : List Item) → All HasFrame xs → All (ItemSuits links source) xs → line_from source xs ≡ map (frame_by (frame_of source)) (listed xs)
unfolding line_of listed
line_by links source [] has suit = refl
line_by links source (x ∷ xs) has suit =
    let here = item_by links source x (All-head HasFrame x xs has) (All-head (ItemSuits links source) x xs suit) in
    let rest = line_by links source xs (All-tail HasFrame x xs has) (All-tail (ItemSuits links source) x xs suit) in
    rw (here, rest) (sym (map-append (frame_by (frame_of source)) (origins_of x) (listed xs)))

-- ---- runs

frames_of_link-by : (value : Origin → Frame) (link : ℕ) (xs : List (LineItem Origin)) → frames_of_link link (map (frame_by value) xs) ≡ map value (frames_of_link link xs)
unfolding frames_of_link
frames_of_link-by value link [] = refl
frames_of_link-by value link (frame other o ∷ xs) =
    elim (nat_eq other link) as (λ b. cond b (value o ∷ frames_of_link link (map (frame_by value) xs)) [] ≡ map value (cond b (o ∷ frames_of_link link xs) [])) [
      | true ↦ ap (λ fs. value o ∷ fs) (frames_of_link-by value link xs)
      | false ↦ refl
    ]
frames_of_link-by value link (gap other kind ∷ xs) = refl

pub run-by : (value : Origin → Frame) (xs : List (LineItem Origin)) → run (map (frame_by value) xs) ≡ map value (run xs)
unfolding run
run-by value [] = refl
run-by value (frame link o ∷ xs) = ap (λ fs. value o ∷ fs) (frames_of_link-by value link xs)
run-by value (gap link kind ∷ xs) = refl
