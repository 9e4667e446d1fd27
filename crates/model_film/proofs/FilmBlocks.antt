-- The blocks that a film's entries decode to are its blocks by number, and have the sizes of its
-- rows.
use Rattle.std.proofs.Common.{◌≡◌, ℕ, zero, suc, ◌+◌, List, [], ◌∷◌, ◌++◌, length, map, get_or, Some, refl, ap, sym, ◌∙◌, arith, append_assoc, length-append}
use Rattle.std.specs.List.{All, flat_map, slice_get}
use Rattle.std.specs.Option.{option_map_or}
use Rattle.std.proofs.lemmas.List.{map-append}
use Rattle.std.proofs.lemmas.List.Elements.{All-head, All-tail}
use Rattle.model_ogg.specs.Entries.{StreamItem, packet, lost}
use Rattle.model_setup.specs.declared.setup.PacketHead.{PacketHead}
use Rattle.model_setup.specs.declared.setup.PacketHead.TheVariants as heads
use Rattle.model_setup.specs.AudioHead.{head_of}
use Rattle.model_synthesis.specs.Tables.{ConstantTables}
use Rattle.model_line.specs.Decode.{Kind, decoded}
use Rattle.model_line.specs.Origins.{kind_of, entry_of, entries_of}
use Rattle.model_line.specs.Halves.{kind_by, entry_by, sizes_of, OfBlock, OfBlocks, OfFilmBlocks}
use Rattle.model_line.specs.Acceptance.{FilmLink}
use Rattle.model_line.specs.PacketRows.{kind_by_head, block_flags, row_of, rows_by, rows_of, sized_links, block_by_head, block_packet, link_block_packets, block_packets_from, block_packets}
use Rattle.model_line.specs.Blocks.{Values, len_of, IsEven, blocks_of, link_blocks, all_blocks, block_at}
use Rattle.model_block.specs.FilmBlocks.{block_of_packet, film_block}
use Rattle.model_film.specs.FilmLines.{decoded_by, decoded_entry, decoded_entries, decoded_links}
use Rattle.model_film.specs.Links.{IsLink}
use Rattle.model_film.proofs.BlockSizes.{size_even, block_len}

-- ---- blocks by number

-- the item behind some others
item_at : {X : Type 0} (before : List X) (x : X) (after : List X) → slice_get (before ++ (x ∷ after)) (length before) ≡ Some x
item_at [] x after = refl
item_at (y ∷ before) x after = item_at before x after

found_or : {X Y : Type 0} (f : X → Y) (xs : List X) (k : ℕ) (none : Y) → option_map_or f (slice_get xs k) none ≡ get_or (map f xs) k none
found_or f [] k none = refl
found_or f (x ∷ xs) zero none = refl
found_or f (x ∷ xs) (suc k) none = found_or f xs k none

module _ (tables : ConstantTables) (all : List FilmLink) where
  head_block : (link : FilmLink) (number : ℕ) (bytes : List ℕ) (head : PacketHead) → slice_get all number ≡ Some link
      → blocks_of (decoded_by tables link bytes head) ≡ map (block_of_packet tables all) (block_by_head number bytes head)
  head_block link number bytes heads.Skip there = refl
  head_block link number bytes heads.Bad there = refl
  head_block link number bytes (heads.Block mode prev next) there = rw there refl

  entry_block : (link : FilmLink) (number : ℕ) (entry : StreamItem) → slice_get all number ≡ Some link
      → blocks_of (decoded_entry tables link entry).kind ≡ map (block_of_packet tables all) (block_packet number (block_flags link.setup) entry)
  entry_block link number (packet bytes mark) there = head_block link number bytes (head_of (block_flags link.setup) bytes) there
  entry_block link number lost there = refl

  entries_blocks : (link : FilmLink) (number : ℕ) (entries : List StreamItem) → slice_get all number ≡ Some link
      → link_blocks (map (decoded_entry tables link) entries) ≡ map (block_of_packet tables all) (flat_map (block_packet number (block_flags link.setup)) entries)
  unfolding link_blocks
  entries_blocks link number [] there = refl
  entries_blocks link number (entry ∷ entries) there =
      rw (entry_block link number entry there, entries_blocks link number entries there)
      (sym (map-append (block_of_packet tables all) (block_packet number (block_flags link.setup) entry) (flat_map (block_packet number (block_flags link.setup)) entries)))

  links_blocks : (before links : List FilmLink) (number : ℕ) → number ≡ length before → all ≡ before ++ links
      → all_blocks (decoded_links tables links) ≡ map (block_of_packet tables all) (block_packets_from number links)
  unfolding all_blocks decoded_entries link_block_packets block_packets_from
  links_blocks before [] number n-is all-is = refl
  links_blocks before (link ∷ links) number n-is all-is =
      let there : slice_get all number ≡ Some link = rw (all-is, n-is) (item_at before link links) in
      let here = entries_blocks link number link.entries there in
      let more = links_blocks (before ++ (link ∷ [])) links (number + 1) (omega (arith, n-is, length-append before (link ∷ []))) (all-is ∙ sym (append_assoc before (link ∷ []) links)) in
      rw (here, more)
      (sym (map-append (block_of_packet tables all) (flat_map (block_packet number (block_flags link.setup)) link.entries) (block_packets_from (number + 1) links)))

-- block k of a film is the one of that number among those that its entries decode to
pub block_is : (tables : ConstantTables) (links : List FilmLink) (k : ℕ) → film_block tables links k ≡ block_at (decoded_links tables links) k
unfolding film_block
block_is tables links k =
    found_or (block_of_packet tables links) (block_packets links) k []
    ∙ ap (λ (blocks : List Values). get_or blocks k []) (sym (links_blocks tables links [] links 0 refl refl))

-- ---- sizes

module _ (tables : ConstantTables) (link : FilmLink) (is : IsLink link) where
  head_size : (bytes : List ℕ) (head : PacketHead) → head_of (block_flags link.setup) bytes ≡ head
      → kind_by len_of (decoded_by tables link bytes head) ≡ kind_of link.ident.short link.ident.long (kind_by_head (block_flags link.setup) head)
  head_size bytes heads.Skip head-is = refl
  head_size bytes heads.Bad head-is = refl
  head_size bytes (heads.Block mode prev next) head-is = ap decoded (block_len tables link bytes mode prev next is head-is)

  entry_size : (entry : StreamItem) → entry_by len_of (decoded_entry tables link entry) ≡ entry_of link.ident.short link.ident.long (row_of (block_flags link.setup) entry)
  entry_size (packet bytes mark) = ap (λ (kind : Kind ℕ). record { kind = kind; mark = mark }) (head_size bytes (head_of (block_flags link.setup) bytes) refl)
  entry_size lost = refl

  entries_size : (entries : List StreamItem) → map (entry_by len_of) (map (decoded_entry tables link) entries) ≡ map (entry_of link.ident.short link.ident.long) (map (row_of (block_flags link.setup)) entries)
  entries_size [] = refl
  entries_size (entry ∷ entries) = rw (entry_size entry, entries_size entries) refl

  -- the sizes of a link's blocks are those of its rows
  pub link_sizes : map (entry_by len_of) (decoded_entries tables link) ≡ entries_of (rows_of link)
  unfolding decoded_entries rows_by
  link_sizes = entries_size link.entries

  head_even : (bytes : List ℕ) (head : PacketHead) → head_of (block_flags link.setup) bytes ≡ head → OfBlock IsEven (decoded_by tables link bytes head)
  head_even bytes heads.Skip head-is = tt
  head_even bytes heads.Bad head-is = tt
  head_even bytes (heads.Block mode prev next) head-is =
      let len = block_len tables link bytes mode prev next is head-is in
      let even = size_even tables link bytes mode prev next is head-is in
      rw len even

  entry_even : (entry : StreamItem) → OfBlock IsEven (decoded_entry tables link entry).kind
  entry_even (packet bytes mark) = head_even bytes (head_of (block_flags link.setup) bytes) refl
  entry_even lost = tt

  entries_even : (entries : List StreamItem) → OfBlocks IsEven (map (decoded_entry tables link) entries)
  unfolding OfBlocks
  entries_even [] = tt
  entries_even (entry ∷ entries) = (entry_even entry, entries_even entries)

  link_even : OfBlocks IsEven (decoded_entries tables link)
  unfolding decoded_entries
  link_even = entries_even link.entries

pub film_sizes : (tables : ConstantTables) (links : List FilmLink) → All IsLink links → sizes_of len_of (decoded_links tables links) ≡ sized_links links
film_sizes tables [] are = refl
film_sizes tables (link ∷ links) are = rw (link_sizes tables link (All-head IsLink link links are), film_sizes tables links (All-tail IsLink link links are)) refl

pub film_even : (tables : ConstantTables) (links : List FilmLink) → All IsLink links → OfFilmBlocks IsEven (decoded_links tables links)
unfolding OfFilmBlocks
film_even tables [] are = tt
film_even tables (link ∷ links) are = (link_even tables link (All-head IsLink link links are), film_even tables links (All-tail IsLink link links are))
