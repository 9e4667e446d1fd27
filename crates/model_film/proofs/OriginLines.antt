-- The line of a film is what its items list, each origin standing for its frame.
use Rattle.std.proofs.Common.{◌≡◌, ℕ, ℤ, zero, suc, ◌+◌, ◌-◌, ◌*◌, ◌≤◌, List, [], ◌∷◌, map, take, drop, refl, ap, sym, ◌∙◌, arith, length-drop}
use Rattle.std.specs.Prelude.{slice_range}
use Rattle.std.specs.List.{range_with_len}
use Rattle.std.proofs.lemmas.List.{length-take, map-append}
use Rattle.std.proofs.lemmas.List.FromFn.{length-map-range_with_len, take-map-range_with_len}
use Rattle.model_line.specs.declared.item.Item.{Item}
use Rattle.model_line.specs.declared.item.Item.TheVariants as variants
use Rattle.model_line.specs.declared.item.Span.{Span}
use Rattle.model_line.specs.Decode.{frame, frame_count}
use Rattle.model_line.specs.Origins.{overlap_len, Origin, origin, origins_of, listed, item_frames, line_of, frame_by}
use Rattle.model_line.specs.Blocks.{Values, len_of, overlap, overlap_frame, left_half, right_half}
use Rattle.model_line.proofs.Counts.{frame_count-append, frame_count-frames}
use Rattle.model_block.specs.FilmBlocks.{film_block}
use Rattle.model_film.specs.Laws.{LineByOrigins}
use Rattle.model_film.proofs.ItemLines.{line_by_items}
use Rattle.model_film.proofs.LineCounts.{item_count, items_count, all_given}

-- a window of values that are made of their numbers
window : {X : Type 0} (f : ℕ → X) (m n from count : ℕ) → count ≤ n - from → take count (drop from (map f (range_with_len m n))) ≡ map f (range_with_len (m + from) count)
window f m n zero count h = let e : m + 0 ≡ m = omega arith in rw e (take-map-range_with_len f m n count (omega arith))
window f m zero (suc from) zero h = refl
window f m zero (suc from) (suc count) h = absurd (omega (arith, h))
window f m (suc n) (suc from) count h =
    let e : m + 1 + from ≡ m + suc from = omega arith in
    window f (m + 1) n from count (omega (arith, h)) ∙ ap (λ k. map f (range_with_len k count)) e

module _ (right left : ℕ → Values) where
  abbrev value : Origin → List ℤ
  value p = overlap_frame (right p.first) (left p.second) p.number

  values_at : (link first second : ℕ) (ns : List ℕ) → map (frame link) (map (overlap_frame (right first) (left second)) ns) ≡ map (frame_by value) (map (frame link) (map (origin first second) ns))
  values_at link first second [] = refl
  values_at link first second (n ∷ ns) = ap (λ xs. frame link (overlap_frame (right first) (left second) n) ∷ xs) (values_at link first second ns)

  span_frames : (s : Span) → frame_count (item_frames overlap right left (variants.Span s)) ≡ frame_count (origins_of (variants.Span s)) → item_frames overlap right left (variants.Span s) ≡ map (frame_by value) (origins_of (variants.Span s))
  unfolding overlap
  span_frames s same =
      let f = overlap_frame (right s.block) (left (s.block + 1)) in
      let n = overlap_len (2 * len_of (right s.block)) (2 * len_of (left (s.block + 1))) in
      let frames = map f (range_with_len 0 n) in
      let count = s.to - s.from in
      let within : count ≤ n - s.from = omega (
        arith,
        same,
        frame_count-frames s.link (slice_range frames s.from s.to),
        length-take count (drop s.from frames),
        length-drop s.from frames,
        length-map-range_with_len f 0 n,
        frame_count-frames s.link (map (origin s.block (s.block + 1)) (range_with_len s.from count)),
        length-map-range_with_len (origin s.block (s.block + 1)) s.from count,
      ) in
      let e : 0 + s.from ≡ s.from = omega arith in
      ap (map (frame s.link)) (window f 0 n s.from count within ∙ ap (λ k. map f (range_with_len k count)) e)
      ∙ values_at s.link s.block (s.block + 1) (range_with_len s.from count)

  item_origins : (x : Item) → frame_count (item_frames overlap right left x) ≡ frame_count (origins_of x) → item_frames overlap right left x ≡ map (frame_by value) (origins_of x)
  item_origins (variants.Span s) same = span_frames s same
  item_origins (variants.Gap link kind) same = refl

  items_origins : (xs : List Item) → frame_count (line_of overlap right left xs) ≡ frame_count (listed xs) → line_of overlap right left xs ≡ map (frame_by value) (listed xs)
  unfolding line_of listed
  items_origins [] same = refl
  items_origins (x ∷ xs) same =
      let given = frame_count-append (item_frames overlap right left x) (line_of overlap right left xs) in
      let told = frame_count-append (origins_of x) (listed xs) in
      let here = item_origins x (omega (arith, same, given, told, item_count right left x, items_count right left xs)) in
      let more = items_origins xs (omega (arith, same, given, told, item_count right left x, items_count right left xs)) in
      rw (here, more) (sym (map-append (frame_by value) (origins_of x) (listed xs)))

pub line_by_origins : LineByOrigins
line_by_origins = λ tables links items are lists.
    sym (line_by_items tables links items are lists)
    ∙ items_origins (λ k. right_half (film_block tables links k)) (λ k. left_half (film_block tables links k)) items (all_given tables links items are lists)
