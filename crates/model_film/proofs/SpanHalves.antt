-- The halves that spans need are of blocks of their links.
use Rattle.std.proofs.Common.{◌≡◌, ◌≤◌, ◌<◌, ℕ, ◌+◌, ◌-◌, ◌*◌, ◌/◌, ℤ, List, [], ◌∷◌, length, map, take, drop, get_or, Some, sym, ap, subst, ◌∙◌, arith, length-drop}
use Rattle.std.specs.Prelude.{slice_range, slice_index_or}
use Rattle.std.specs.List.{All, range_with_len, slice_get}
use Rattle.std.proofs.lemmas.List.{length-take, length-map, get_or-map}
use Rattle.std.proofs.lemmas.List.Elements.{All-nil, All-cons, All-head, All-tail, All-from_get_or, All-map, All-take, All-drop}
use Rattle.std.proofs.lemmas.List.FromFn.{length-map-range_with_len}
use Rattle.std.proofs.lemmas.Option.{same_Some}
use Rattle.model_setup.specs.HeaderPackets.{IsBlockSize}
use Rattle.model_synthesis.specs.Tables.{ConstantTables, AreTables}
use Rattle.model_synthesis.specs.Transform.{IsBlockValue}
use Rattle.model_synthesis.proofs.BlockSizes.{block_size_even}
use Rattle.model_line.specs.declared.item.Item.{Item}
use Rattle.model_line.specs.declared.item.Item.TheVariants as variants
use Rattle.model_line.specs.declared.item.Span.{Span}
use Rattle.model_line.specs.Decode.{frame_count}
use Rattle.model_line.specs.Origins.{overlap_len, origins_of, listed, item_frames, line_of, HasFrame}
use Rattle.model_line.specs.Acceptance.{FilmLink}
use Rattle.model_line.specs.PacketRows.{sized_links, block_packets}
use Rattle.model_line.specs.Blocks.{Values, len_of, overlap, overlap_frame, left_half, right_half}
use Rattle.model_line.specs.Index.{IsWithin}
use Rattle.model_line.specs.Laws.{block_link, IsOfLink}
use Rattle.model_line.proofs.BlockPackets.{links_behind}
use Rattle.model_line.proofs.Counts.{frame_count-append, frame_count-frames}
use Rattle.model_line.proofs.SpanLinks.{spans_of_links}
use Rattle.model_line.proofs.SpanLaws.{listed_count}
use Rattle.model_block.specs.FilmBlocks.{film_block}
use Rattle.model_film.specs.Links.{IsLink}
use Rattle.model_film.specs.Laws.{IsHalfOf, SpanFits, ItemFits, SpansFitHalves}
use Rattle.model_film.proofs.ResidueSizes.{AreSized}
use Rattle.model_film.proofs.LineCounts.{item_count, items_count, all_given}
use Rattle.model_film.proofs.SmallBlocks.{blocks_are_small}
use Rattle.model_film.proofs.NumberedBlocks.{IsBlockOf, All-some, block_of}

-- ---- halves of a block

mapped_sized : (f : List ℤ → List ℤ) (count size half : ℕ) (block : Values) → AreSized count size block → ((values : List ℤ) → length values ≡ size → length (f values) ≡ half) → AreSized count half (map f block)
mapped_sized f count size half block are fits = record {
  number = length-map block f ∙ are.number;
  sizes = λ c lt. ap length (get_or-map f block c [] [] (omega (arith, lt, are.number))) ∙ fits (get_or block c []) (are.sizes c lt);
}

half_of : (link : FilmLink) (size : ℕ) (half : Values) → 0 < link.ident.channels → IsBlockSize (2 * size) → AreSized link.ident.channels size half → All (All IsBlockValue) half → IsHalfOf link half
half_of link size half some right are small =
    let len : len_of half ≡ size = are.sizes 0 some in
    record {
      some = some;
      count = are.number;
      size = subst (λ n. IsBlockSize (2 * n)) (sym len) right;
      sizes = All-from_get_or (λ (values : List ℤ). length values ≡ len_of half) half [] (λ c lt. are.sizes c (omega (arith, lt, are.number)) ∙ sym len);
      small = small;
    }

module _ (link : FilmLink) (block : Values) (some : 0 < link.ident.channels) (is : IsBlockOf link block) (small : All (All IsBlockValue) block) where
  half_size : IsBlockSize (2 * (is.size / 2))
  half_size = let e : is.size ≡ 2 * (is.size / 2) = omega (arith, block_size_even is.size is.right) in subst IsBlockSize e is.right

  len_is : len_of block ≡ is.size
  len_is = is.sized.sizes 0 some

  left_is : IsHalfOf link (left_half block)
  unfolding left_half
  left_is =
      let h : ℕ = len_of block / 2 in
      let e : h ≡ is.size / 2 = ap (λ n. n / 2) len_is in
      half_of link (is.size / 2) (map (take h) block) some half_size
      (mapped_sized (take h) link.ident.channels is.size (is.size / 2) block is.sized (λ values long. omega (arith, length-take h values, long, e)))
      (All-map (All IsBlockValue) (take h) block (λ k d lt. All-take IsBlockValue h (slice_index_or block k d) (small k d lt)))

  right_is : IsHalfOf link (right_half block)
  unfolding right_half
  right_is =
      let h : ℕ = len_of block / 2 in
      let e : h ≡ is.size / 2 = ap (λ n. n / 2) len_is in
      half_of link (is.size / 2) (map (drop h) block) some half_size
      (mapped_sized (drop h) link.ident.channels is.size (is.size / 2) block is.sized (λ values long. omega (arith, length-drop h values, long, e, block_size_even is.size is.right)))
      (All-map (All IsBlockValue) (drop h) block (λ k d lt. All-drop IsBlockValue h (slice_index_or block k d) (small k d lt)))

-- ---- spans

-- a span that gives as many frames as it lists lies within what its halves give
span_within : (right left : ℕ → Values) (s : Span) → s.from < s.to → frame_count (item_frames overlap right left (variants.Span s)) ≡ frame_count (origins_of (variants.Span s))
    → s.to ≤ overlap_len (2 * len_of (right s.block)) (2 * len_of (left (s.block + 1)))
unfolding overlap
span_within right left s lt same =
    let n = overlap_len (2 * len_of (right s.block)) (2 * len_of (left (s.block + 1))) in
    let frames = map (overlap_frame (right s.block) (left (s.block + 1))) (range_with_len 0 n) in
    omega (arith, lt, same, listed_count s, frame_count-frames s.link (slice_range frames s.from s.to), length-take (s.to - s.from) (drop s.from frames), length-drop s.from frames, length-map-range_with_len (overlap_frame (right s.block) (left (s.block + 1))) 0 n)

module _ (tables : ConstantTables) (links : List FilmLink) (right_tables : AreTables tables) (are : All IsLink links) where
  abbrev right : ℕ → Values
  right k = right_half (film_block tables links k)

  abbrev left : ℕ → Values
  left k = left_half (film_block tables links k)

  abbrev link_of : ℕ → ℕ
  link_of = block_link 0 0 (sized_links links)

  span_fits : (blocks : ℕ) (s : Span) → blocks ≡ length (block_packets links) → IsOfLink link_of (variants.Span s) → s.from < s.to → s.block + 1 < blocks
      → frame_count (item_frames overlap right left (variants.Span s)) ≡ frame_count (origins_of (variants.Span s)) → SpanFits tables links s
  span_fits blocks s blocks-is of has within same =
      let first = block_of tables links are s.block (omega (arith, within, blocks-is)) in
      let second = block_of tables links are (s.block + 1) (omega (arith, within, blocks-is)) in
      let there : slice_get links s.link ≡ Some first.0 = ap (slice_get links) (sym of.0) ∙ first.1 in
      let other : slice_get links s.link ≡ Some second.0 = ap (slice_get links) (sym of.1) ∙ second.1 in
      let one : second.0 ≡ first.0 = same_Some second.0 first.0 (sym other ∙ there) in
      let is : IsLink first.0 = All-some IsLink links s.link first.0 there are in
      record {
        link = first.0;
        there = there;
        right = right_is first.0 (film_block tables links s.block) is.channels first.2 (blocks_are_small tables links s.block right_tables are);
        left = left_is first.0 (film_block tables links (s.block + 1)) is.channels (subst (λ link. IsBlockOf link (film_block tables links (s.block + 1))) one second.2) (blocks_are_small tables links (s.block + 1) right_tables are);
        within = span_within right left s has same;
      }

  item_fits : (blocks : ℕ) (x : Item) → blocks ≡ length (block_packets links) → IsOfLink link_of x → HasFrame x → IsWithin blocks x
      → frame_count (item_frames overlap right left x) ≡ frame_count (origins_of x) → ItemFits tables links x
  item_fits blocks (variants.Span s) blocks-is of has within same = span_fits blocks s blocks-is of has within same
  item_fits blocks (variants.Gap link kind) blocks-is of has within same = tt

  items_fit : (blocks : ℕ) (xs : List Item) → blocks ≡ length (block_packets links) → All (IsOfLink link_of) xs → All HasFrame xs → All (IsWithin blocks) xs
      → frame_count (line_of overlap right left xs) ≡ frame_count (listed xs) → All (ItemFits tables links) xs
  unfolding line_of listed
  items_fit blocks [] blocks-is of has within same = All-nil (ItemFits tables links)
  items_fit blocks (x ∷ xs) blocks-is of has within same =
      let given = frame_count-append (item_frames overlap right left x) (line_of overlap right left xs) in
      let told = frame_count-append (origins_of x) (listed xs) in
      let here : frame_count (item_frames overlap right left x) ≡ frame_count (origins_of x) = omega (arith, same, given, told, item_count right left x, items_count right left xs) in
      let more : frame_count (line_of overlap right left xs) ≡ frame_count (listed xs) = omega (arith, same, given, told, here) in
      All-cons (ItemFits tables links) x xs
      (item_fits blocks x blocks-is (All-head (IsOfLink link_of) x xs of) (All-head HasFrame x xs has) (All-head (IsWithin blocks) x xs within) here)
      (items_fit blocks xs blocks-is (All-tail (IsOfLink link_of) x xs of) (All-tail HasFrame x xs has) (All-tail (IsWithin blocks) x xs within) more)

pub spans_fit_halves : SpansFitHalves
spans_fit_halves = λ tables links index right_tables are is.
    items_fit tables links right_tables are index.blocks index.items (is.count ∙ omega (arith, links_behind 0 0 links))
    (spans_of_links (sized_links links) index.items is.origins is.frames) is.frames is.within
    (all_given tables links index.items are is.origins)
