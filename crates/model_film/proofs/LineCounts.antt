-- How many frames and gaps a line of whole blocks has, and how many frames stand before each item.
use Rattle.std.proofs.Common.{◌≡◌, ℕ, ℤ, zero, suc, ◌+◌, ◌-◌, ◌≤◌, ◌<◌, List, [], ◌∷◌, ◌++◌, length, map, take, drop, Some, None, refl, ap, sym, ◌∙◌, arith}
use Rattle.std.specs.Prelude.{slice_range}
use Rattle.std.specs.List.{All, range_with_len, slice_get}
use Rattle.std.proofs.lemmas.List.{length-take, take-append-drop}
use Rattle.std.proofs.lemmas.List.Concat.{flat_map-append}
use Rattle.std.proofs.lemmas.List.FromFn.{length-range_with_len, length-map-range_with_len}
use Rattle.model_line.specs.declared.item.Item.{Item}
use Rattle.model_line.specs.declared.item.Item.TheVariants as variants
use Rattle.model_line.specs.declared.item.Span.{Span}
use Rattle.model_line.specs.Decode.{Kind, missing, skipped, decoded, LinkEntry, linear_decode, frame_count, gap_count}
use Rattle.model_line.specs.Trim.{trimmed}
use Rattle.model_line.specs.Lines.{link_cuts, link_line, line}
use Rattle.model_line.specs.Origins.{overlap_len, frame_numbers, number_behind, Origin, origin, origins, origins_of, numbered_entries, numbered_links, line_origins, listed, starts_from, item_frames, line_of}
use Rattle.model_line.specs.Halves.{kind_by, entry_by, sizes_of}
use Rattle.model_line.specs.Index.{facts_of}
use Rattle.model_line.specs.Acceptance.{FilmLink}
use Rattle.model_line.specs.PacketRows.{sized_links}
use Rattle.model_line.specs.Blocks.{Values, len_of, frame_between, frames_between, overlap, left_half, right_half}
use Rattle.model_line.proofs.Counts.{frame_count-append, gap_count-append, frame_count-frames}
use Rattle.model_line.proofs.Levels.{map_items, trimmed-by, frame_count-by, gap_count-by, cuts_by_size, items_by, Any, any_blocks, counts_line}
use Rattle.model_synthesis.specs.Tables.{ConstantTables}
use Rattle.model_block.specs.FilmBlocks.{film_block}
use Rattle.model_film.specs.FilmLines.{decoded_entries, decoded_links, film_line}
use Rattle.model_film.specs.Links.{IsLink}
use Rattle.model_film.specs.Laws.{line_of_items, Agrees, CountsAgree, FactsAgree}
use Rattle.model_film.proofs.FilmBlocks.{link_sizes, film_sizes}
use Rattle.model_film.proofs.ItemLines.{line_by_items}

-- ---- a link: frames of which nothing but their number is left

abbrev Left : Type 0
Left = Unit {0}

abbrev nothing : {F : Type 0} → F → Left
nothing f = tt

abbrev left_between : ℕ → ℕ → List Left
left_between a b = map nothing (frame_numbers a b)

same_number : {F G : Type 0} (fs : List F) (gs : List G) → length fs ≡ length gs → map (nothing {F = F}) fs ≡ map (nothing {F = G}) gs
same_number [] [] e = refl
same_number [] (g ∷ gs) e = absurd (omega (arith, e))
same_number (f ∷ fs) [] e = absurd (omega (arith, e))
same_number (f ∷ fs) (g ∷ gs) e = ap (λ (xs : List Left). tt ∷ xs) (same_number fs gs (omega (arith, e)))

frames_length : (a b : Values) → length (frames_between a b) ≡ overlap_len (len_of a) (len_of b)
unfolding frames_between
frames_length a b = length-map-range_with_len (frame_between a b) 0 (overlap_len (len_of a) (len_of b))

abbrev itself : ℕ → ℕ
itself n = n

kind_itself : (kind : Kind ℕ) → kind_by itself kind ≡ kind
kind_itself (missing kind) = refl
kind_itself skipped = refl
kind_itself (decoded n) = refl

entries_themselves : (es : List (LinkEntry ℕ)) → map (entry_by itself) es ≡ es
entries_themselves [] = refl
entries_themselves (e ∷ es) = rw (kind_itself e.kind, entries_themselves es) refl

module _ (link : ℕ) (es : List (LinkEntry Values)) where
  abbrev sizes : List (LinkEntry ℕ)
  sizes = map (entry_by len_of) es

  decode_left : map_items (nothing {F = List ℤ}) (linear_decode link frames_between None es) ≡ map_items (nothing {F = ℕ}) (linear_decode link frame_numbers None sizes)
  decode_left =
      let whole = items_by len_of (nothing {F = List ℤ}) frames_between left_between (λ a b. same_number (frame_numbers (len_of a) (len_of b)) (frames_between a b) (length-range_with_len 0 (overlap_len (len_of a) (len_of b)) ∙ sym (frames_length a b))) link None es in
      let known = items_by itself (nothing {F = ℕ}) frame_numbers left_between (λ a b. refl) link None sizes in
      let alone = rw (entries_themselves sizes) at known in
      sym whole ∙ alone

  line_left : map_items (nothing {F = List ℤ}) (link_line link frames_between es) ≡ map_items (nothing {F = ℕ}) (link_line link frame_numbers sizes)
  unfolding link_line
  line_left =
      let cuts = link_cuts frame_numbers sizes in
      rw (cuts_by_size len_of frames_between Any (λ a b any more. frames_length a b) es (any_blocks es))
      (sym (trimmed-by (nothing {F = List ℤ}) cuts 0 (linear_decode link frames_between None es))
      ∙ (ap (trimmed cuts 0) decode_left
      ∙ trimmed-by (nothing {F = ℕ}) cuts 0 (linear_decode link frame_numbers None sizes)))

  link_frames : frame_count (link_line link frames_between es) ≡ frame_count (link_line link frame_numbers sizes)
  link_frames =
      sym (frame_count-by (nothing {F = List ℤ}) (link_line link frames_between es))
      ∙ (ap frame_count line_left ∙ frame_count-by (nothing {F = ℕ}) (link_line link frame_numbers sizes))

  link_gaps : gap_count (link_line link frames_between es) ≡ gap_count (link_line link frame_numbers sizes)
  link_gaps =
      sym (gap_count-by (nothing {F = List ℤ}) (link_line link frames_between es))
      ∙ (ap gap_count line_left ∙ gap_count-by (nothing {F = ℕ}) (link_line link frame_numbers sizes))

pub facts_agree : FactsAgree
unfolding facts_of
facts_agree = λ tables number link is.
    let sizes = link_sizes tables link is in (
      ap (λ es. frame_count (link_line number frame_numbers es)) (sym sizes) ∙ sym (link_frames number (decoded_entries tables link)),
      ap (λ es. gap_count (link_line number frame_numbers es)) (sym sizes) ∙ sym (link_gaps number (decoded_entries tables link)),
    )

-- ---- a film

origins_frames : (link n : ℕ) (es : List (LinkEntry ℕ)) → frame_count (link_line link origins (numbered_entries n es)) ≡ frame_count (link_line link frame_numbers es)
origins_frames link n es = sym (ap frame_count (counts_line link n es) ∙ frame_count-by (λ (p : Origin). p.number) (link_line link origins (numbered_entries n es)))

origins_gaps : (link n : ℕ) (es : List (LinkEntry ℕ)) → gap_count (link_line link origins (numbered_entries n es)) ≡ gap_count (link_line link frame_numbers es)
origins_gaps link n es = sym (ap gap_count (counts_line link n es) ∙ gap_count-by (λ (p : Origin). p.number) (link_line link origins (numbered_entries n es)))

line_frames : (link n : ℕ) (links : List (List (LinkEntry Values))) → frame_count (line origins link (numbered_links n (sizes_of len_of links))) ≡ frame_count (line frames_between link links)
unfolding line numbered_links frame_count
line_frames link n [] = refl
line_frames link n (es ∷ links) =
    let sized = map (entry_by len_of) es in
    let behind = number_behind n sized in
    omega (arith, frame_count-append (link_line link origins (numbered_entries n sized)) (line origins (link + 1) (numbered_links behind (sizes_of len_of links))), frame_count-append (link_line link frames_between es) (line frames_between (link + 1) links), origins_frames link n sized, link_frames link es, line_frames (link + 1) behind links)

line_gaps : (link n : ℕ) (links : List (List (LinkEntry Values))) → gap_count (line origins link (numbered_links n (sizes_of len_of links))) ≡ gap_count (line frames_between link links)
unfolding line numbered_links gap_count
line_gaps link n [] = refl
line_gaps link n (es ∷ links) =
    let sized = map (entry_by len_of) es in
    let behind = number_behind n sized in
    omega (arith, gap_count-append (link_line link origins (numbered_entries n sized)) (line origins (link + 1) (numbered_links behind (sizes_of len_of links))), gap_count-append (link_line link frames_between es) (line frames_between (link + 1) links), origins_gaps link n sized, link_gaps link es, line_gaps (link + 1) behind links)

-- ---- items

-- items give no more frames than they list
module _ (right left : ℕ → Values) where
  span_count : (s : Span) → frame_count (item_frames overlap right left (variants.Span s)) ≤ frame_count (origins_of (variants.Span s))
  span_count s =
      let frames = overlap (right s.block) (left (s.block + 1)) in
      omega (
        arith,
        frame_count-frames s.link (slice_range frames s.from s.to),
        length-take (s.to - s.from) (drop s.from frames),
        frame_count-frames s.link (map (origin s.block (s.block + 1)) (range_with_len s.from (s.to - s.from))),
        length-map-range_with_len (origin s.block (s.block + 1)) s.from (s.to - s.from),
      )

  pub item_count : (x : Item) → frame_count (item_frames overlap right left x) ≤ frame_count (origins_of x)
  unfolding frame_count
  item_count (variants.Span s) = span_count s
  item_count (variants.Gap link kind) = omega arith

  pub items_count : (xs : List Item) → frame_count (line_of overlap right left xs) ≤ frame_count (listed xs)
  unfolding line_of listed frame_count
  items_count [] = omega arith
  items_count (x ∷ xs) = omega (arith, item_count x, items_count xs, frame_count-append (item_frames overlap right left x) (line_of overlap right left xs), frame_count-append (origins_of x) (listed xs))

  -- where they give as many as they list, those before any of them do too
  pub before_count : (xs : List Item) (i : ℕ) → frame_count (line_of overlap right left xs) ≡ frame_count (listed xs) → frame_count (line_of overlap right left (take i xs)) ≡ frame_count (listed (take i xs))
  unfolding line_of listed
  before_count xs i same =
      let first = take i xs in
      let rest = drop i xs in
      let both = rw (sym (take-append-drop i xs)) at same in
      let given = ap frame_count (flat_map-append (item_frames overlap right left) first rest) ∙ frame_count-append (line_of overlap right left first) (line_of overlap right left rest) in
      let told = ap frame_count (flat_map-append origins_of first rest) ∙ frame_count-append (listed first) (listed rest) in
      omega (arith, both, given, told, items_count first, items_count rest)

start_is : (n : ℕ) (xs : List Item) (i : ℕ) → i < length xs → slice_get (starts_from n xs) i ≡ Some (n + frame_count (listed (take i xs)))
unfolding starts_from listed frame_count
start_is n [] i lt = absurd (omega (arith, lt))
start_is n (x ∷ xs) zero lt = let e : n ≡ n + 0 = omega arith in ap Some e
start_is n (x ∷ xs) (suc i) lt =
    let e : n + frame_count (origins_of x) + frame_count (listed (take i xs)) ≡ n + frame_count (origins_of x ++ listed (take i xs)) = omega (arith, frame_count-append (origins_of x) (listed (take i xs))) in
    start_is (n + frame_count (origins_of x)) xs i (omega (arith, lt)) ∙ ap Some e

-- ---- the counts of a film's items

module _ (tables : ConstantTables) (links : List FilmLink) (items : List Item) (are : All IsLink links) (lists : listed items ≡ line_origins (sized_links links)) where
  total_is : frame_count (listed items) ≡ frame_count (film_line tables links)
  unfolding film_line
  total_is = ap frame_count (lists ∙ ap line_origins (sym (film_sizes tables links are))) ∙ line_frames 0 0 (decoded_links tables links)

  gaps_are : gap_count (listed items) ≡ gap_count (film_line tables links)
  unfolding film_line
  gaps_are = ap gap_count (lists ∙ ap line_origins (sym (film_sizes tables links are))) ∙ line_gaps 0 0 (decoded_links tables links)

  -- the items give as many frames as they list
  pub all_given : frame_count (line_of_items tables links items) ≡ frame_count (listed items)
  all_given = ap frame_count (line_by_items tables links items are lists) ∙ sym total_is

  agrees : Agrees tables links items
  agrees = record {
    total = total_is;
    gaps = gaps_are;
    starts = λ i lt. start_is 0 items i lt ∙ ap Some (let e : 0 + frame_count (listed (take i items)) ≡ frame_count (listed (take i items)) = omega arith in
        e ∙ sym (before_count (λ k. right_half (film_block tables links k)) (λ k. left_half (film_block tables links k)) items i all_given));
  }

pub counts_agree : CountsAgree
counts_agree = λ tables links items are lists. agrees tables links items are lists
