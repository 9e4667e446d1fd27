-- The spans of an index lie within the frames of their blocks.
use Rattle.std.proofs.Common.{◌≡◌, ℕ, ◌+◌, ◌-◌, ◌≤◌, List, [], ◌∷◌, length, map, drop, min, refl, ap, sym, ◌∙◌, arith, length-drop}
use Rattle.std.specs.Prelude.{slice_range}
use Rattle.std.proofs.lemmas.List.{length-take}
use Rattle.model_line.specs.declared.item.Span.{Span}
use Rattle.std.specs.List.{All, range_with_len}
use Rattle.std.proofs.lemmas.List.Elements.{All-nil, All-cons, All-head, All-tail}
use Rattle.std.proofs.lemmas.List.FromFn.{length-range_with_len, length-map-range_with_len}
use Rattle.model_line.specs.declared.item.Item.{Item}
use Rattle.model_line.specs.declared.item.Item.TheVariants as variants
use Rattle.model_line.specs.Decode.{Kind, missing, skipped, decoded, LinkEntry, frame_count}
use Rattle.model_line.specs.Lines.{line}
use Rattle.model_line.specs.Origins.{overlap_len, frame_numbers, origin, origins, origins_of, numbered_links, line_origins, listed, HasFrame, item_frames, line_of}
use Rattle.model_line.specs.Halves.{kind_by, entry_by, sizes_of, OfFilmBlocks}
use Rattle.model_line.specs.Laws.{FitsBlocks, SpansFit}
use Rattle.model_line.proofs.Counts.{frame_count-append, frame_count-frames}
use Rattle.model_line.proofs.Levels.{frame_count-by, Any, any_blocks}
use Rattle.model_line.proofs.Spans.{present_frame, value_at, line_values, line_of_listed}

-- ---- sizes that are known by themselves

abbrev itself : ℕ → ℕ
itself n = n

kind_itself : (kind : Kind ℕ) → kind_by itself kind ≡ kind
kind_itself (missing kind) = refl
kind_itself skipped = refl
kind_itself (decoded n) = refl

entries_themselves : (es : List (LinkEntry ℕ)) → map (entry_by itself) es ≡ es
entries_themselves [] = refl
entries_themselves (e ∷ es) = rw (kind_itself e.kind, entries_themselves es) refl

sizes_themselves : (links : List (List (LinkEntry ℕ))) → sizes_of itself links ≡ links
sizes_themselves [] = refl
sizes_themselves (es ∷ links) = rw (entries_themselves es, sizes_themselves links) refl

any_film_blocks : (links : List (List (LinkEntry ℕ))) → OfFilmBlocks Any links
unfolding OfFilmBlocks
any_film_blocks [] = tt
any_film_blocks (es ∷ links) = (any_blocks es, any_film_blocks links)

counts_fit : (a b : ℕ) → Any a → Any b → length (frame_numbers a b) ≡ overlap_len a b
counts_fit a b any more = length-range_with_len 0 (overlap_len a b)

-- ---- a line of spans by counts has as many frames as they list, where they fit their blocks

span_count : (sizes : ℕ → ℕ) (s : Span) → frame_count (item_frames frame_numbers sizes sizes (variants.Span s)) ≡ min (s.to - s.from) (overlap_len (sizes s.block) (sizes (s.block + 1)) - s.from)
span_count sizes s =
    let frames = frame_numbers (sizes s.block) (sizes (s.block + 1)) in
    omega (arith, frame_count-frames s.link (slice_range frames s.from s.to), length-take (s.to - s.from) (drop s.from frames), length-drop s.from frames, length-range_with_len 0 (overlap_len (sizes s.block) (sizes (s.block + 1))))

pub listed_count : (s : Span) → frame_count (origins_of (variants.Span s)) ≡ s.to - s.from
listed_count s = frame_count-frames s.link (map (origin s.block (s.block + 1)) (range_with_len s.from (s.to - s.from))) ∙ length-map-range_with_len (origin s.block (s.block + 1)) s.from (s.to - s.from)

item_count : (sizes : ℕ → ℕ) (x : Item) → frame_count (item_frames frame_numbers sizes sizes x) ≤ frame_count (origins_of x)
unfolding frame_count
item_count sizes (variants.Span s) = omega (arith, span_count sizes s, listed_count s)
item_count sizes (variants.Gap link kind) = omega arith

item_fits : (sizes : ℕ → ℕ) (x : Item) → HasFrame x → frame_count (item_frames frame_numbers sizes sizes x) ≡ frame_count (origins_of x) → FitsBlocks sizes x
item_fits sizes (variants.Span s) has same = omega (arith, has, same, span_count sizes s, listed_count s)
item_fits sizes (variants.Gap link kind) has same = tt

items_count : (sizes : ℕ → ℕ) (xs : List Item) → frame_count (line_of frame_numbers sizes sizes xs) ≤ frame_count (listed xs)
unfolding line_of listed frame_count
items_count sizes [] = omega arith
items_count sizes (x ∷ xs) = omega (arith, item_count sizes x, items_count sizes xs, frame_count-append (item_frames frame_numbers sizes sizes x) (line_of frame_numbers sizes sizes xs), frame_count-append (origins_of x) (listed xs))

items_fit : (sizes : ℕ → ℕ) (xs : List Item) → All HasFrame xs → frame_count (line_of frame_numbers sizes sizes xs) ≡ frame_count (listed xs) → All (FitsBlocks sizes) xs
unfolding line_of listed frame_count
items_fit sizes [] has same = All-nil (FitsBlocks sizes)
items_fit sizes (x ∷ xs) has same =
    let one = frame_count-append (item_frames frame_numbers sizes sizes x) (line_of frame_numbers sizes sizes xs) in
    let two = frame_count-append (origins_of x) (listed xs) in
    let less = item_count sizes x in
    let fewer = items_count sizes xs in
    All-cons (FitsBlocks sizes) x xs
    (item_fits sizes x (All-head HasFrame x xs has) (omega (arith, same, one, two, less, fewer)))
    (items_fit sizes xs (All-tail HasFrame x xs has) (omega (arith, same, one, two, less, fewer)))

pub spans_fit : SpansFit
spans_fit = λ links. λ sizes. λ xs. λ are. λ lists. λ has.
    let themselves = sizes_themselves links in
    let all = any_film_blocks links in
    let lists_sizes : listed xs ≡ line_origins (sizes_of itself links) = rw themselves lists in
    let by_counts = line_of_listed itself itself itself frame_numbers frame_numbers Any (λ a b any more. refl) counts_fit sizes links are all xs lists_sizes in
    let values = line_values itself sizes frame_numbers frame_numbers Any (λ a b any more. refl) counts_fit 0 0 links are all in
    let same = sym (frame_count-by (present_frame {F = ℕ}) (line frame_numbers 0 links)) ∙ ap frame_count values ∙ frame_count-by (value_at (λ k l. frame_numbers (sizes k) (sizes l))) (line origins 0 (numbered_links 0 (sizes_of itself links))) in
    items_fit sizes xs has (ap frame_count by_counts ∙ same ∙ sym (ap frame_count lists_sizes))
