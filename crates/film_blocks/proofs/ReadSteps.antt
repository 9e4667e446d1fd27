-- What reading links gives, one link at a time.
use Rattle.std.proofs.Common.{◌≡◌, ℕ, ◌+◌, ◌-◌, ◌^◌, ◌≤◌, List, [], ◌∷◌, ◌++◌, length, map, drop, ap, sym, ◌∙◌, arith, length-drop}
use Rattle.std.proofs.lemmas.List.{length-map, map-append}
use Rattle.std.proofs.Math.Nat.{pow-le-pow_right}
use Rattle.std.specs.List.{All}
use Rattle.std.proofs.lemmas.List.Elements.{All-push}
use Rattle.std.proofs.lemmas.List.Sums.{sum_by-append, sum_by-cons}
use Rattle.ogg_packets.specs.declared.entry.Entry.{Entry}
use Rattle.ogg_packets.specs.Entries.{item_of, items_of, EntryLiesBefore}
use Rattle.model_setup.specs.declared.head.IdentFields.{IdentFields}
use Rattle.model_setup.specs.HeaderPackets.{IsBlockSize, IsPlayable}
use Rattle.model_setup.specs.SetupPacket.{SetupFields, IsSetup}
use Rattle.model_line.specs.declared.row.TheConstants.{LARGEST_BLOCK, MOST_ENTRIES}
use Rattle.model_line.specs.declared.film.TheConstants.{MOST_CHANNELS}
use Rattle.model_line.specs.declared.row.LinkRows.{LinkRows}
use Rattle.model_line.specs.Acceptance.{FilmLink, link_with}
use Rattle.model_line.specs.PacketRows.{row_of, block_flags, rows_by, rows_of}
use Rattle.model_line.specs.LinkTests.{headers_of}
use Rattle.model_line.specs.Origins.{entries_of}
use Rattle.model_line.specs.Index.{Indexed, Indexes, all_behind}
use Rattle.model_line.proofs.FactsAt.{length-facts}
use Rattle.film_index.specs.Bounds.{FitsLink, FitsIndex, rows_in}
use Rattle.film_blocks.specs.declared.held.HeldLink.{HeldLink}
use Rattle.film_blocks.specs.Held.{link_in, links_in, IsHeld, blocks_in, held_ends}
use Rattle.film_blocks.specs.declared.places.TheConstants.{HEADER_COUNT}
use Rattle.film_blocks.specs.Places.{block_places}
use Rattle.film_blocks.specs.Reads.{IsRead, AreRead}
use Rattle.film_blocks.specs.Films.{IsFilm}
use Rattle.film_blocks.proofs.EndSteps.{ends_are, blocks_few}
use Rattle.film_blocks.proofs.HeldPieces.{pieces_lie}
use Rattle.film_blocks.proofs.HeadFacts.{Accepted}

pub read_one : (bytes : List ℕ) (held : List HeldLink) (rows : List LinkRows) (h : HeldLink) (r : LinkRows) → AreRead bytes held rows → IsRead bytes h r → AreRead bytes (held ++ h ∷ []) (rows ++ r ∷ [])
read_one bytes held rows h r all one = record {
  held_right = All-push (IsHeld bytes) held h all.held_right one.held_right;
  rows_right = rw (all.rows_right, one.rows_right) (sym (ap (map rows_of) (map-append (link_in bytes) held (h ∷ [])) ∙ map-append rows_of (links_in bytes held) (link_in bytes h ∷ [])));
  fits = All-push FitsLink rows r all.fits one.fits;
}

pub links_in-push : (bytes : List ℕ) (held now : List HeldLink) (h : HeldLink) → now ≡ held ++ h ∷ [] → links_in bytes now ≡ links_in bytes held ++ link_in bytes h ∷ []
links_in-push bytes held now h is = ap (links_in bytes) is ∙ map-append (link_in bytes) held (h ∷ [])

rows_len : (link : FilmLink) → length (rows_of link).rows ≡ length link.entries
unfolding rows_by
rows_len link = length-map link.entries (row_of (block_flags link.setup))

entries_len : (bytes : List ℕ) (h : HeldLink) → length (link_in bytes h).entries ≤ length h.entries.items
unfolding link_with
entries_len bytes h = omega (arith, length-drop 3 (items_of bytes h.entries.items), length-map h.entries.items (item_of bytes))

-- a link has no more rows than entries
pub rows_few : (bytes : List ℕ) (h : HeldLink) (r : LinkRows) → IsRead bytes h r → length r.rows ≤ length h.entries.items
rows_few bytes h r one = omega (arith, ap (λ (x : LinkRows). length x.rows) one.rows_right, rows_len (link_in bytes h), entries_len bytes h)

pub rows_in-push : (rows : List LinkRows) (r : LinkRows) → rows_in (rows ++ r ∷ []) ≡ rows_in rows + length r.rows
rows_in-push rows r = sum_by-append (λ (x : LinkRows). length x.rows) rows (r ∷ []) ∙ omega (arith, sum_by-cons (λ (x : LinkRows). length x.rows) r [])

-- the rows of entries behind three headers
pub rows_behind : (bytes : List ℕ) (es : List Entry) (ident : IdentFields) (setup : SetupFields) (rows : LinkRows) → rows ≡ rows_by ident setup (drop 3 (items_of bytes es)) → length rows.rows ≡ length es - 3
unfolding rows_by
rows_behind bytes es ident setup rows is =
    ap (λ (r : LinkRows). length r.rows) is ∙ length-map (drop 3 (items_of bytes es)) (row_of (block_flags setup))
    ∙ omega (arith, length-drop 3 (items_of bytes es), length-map es (item_of bytes))

-- ---- one link

block_small : (size : ℕ) → IsBlockSize size → size ≤ LARGEST_BLOCK
block_small size h =
    let most : 2 ^ h.exponent ≤ 2 ^ 13 = pow-le-pow_right {n = 2} (omega arith) h.at_most_8192 in
    omega (arith, most, h.is_power)

-- a link is read right, where its headers are accepted and its rows are theirs
pub link_read : (bytes : List ℕ) (h : HeldLink) (rows : LinkRows) (ident : IdentFields) (setup : SetupFields) → All (EntryLiesBefore (length bytes)) h.entries.items → h.channels ≡ ident.channels
    → Accepted (headers_of (items_of bytes h.entries.items)) ident setup → IsPlayable ident → ident.channels ≤ MOST_CHANNELS → IsSetup ident.channels setup → rows ≡ rows_by ident setup (drop 3 (items_of bytes h.entries.items))
    → h.sizes.short ≡ ident.short → h.sizes.long ≡ ident.long → h.blocks.items ≡ block_places HEADER_COUNT rows.rows → IsRead bytes h rows
unfolding link_with rows_by
link_read bytes h rows ident setup lies channels said playable few whole rows-are sizes-short sizes-long blocks =
    let entries = drop 3 (items_of bytes h.entries.items) in
    let short = block_small ident.short playable.short in
    let long = block_small ident.long playable.long in
    let rows-same = rows-are ∙ ap (λ (i : IdentFields). rows_by i setup entries) (sym said.ident_is) ∙ ap (λ (s : SetupFields). rows_by (link_in bytes h).ident s entries) (sym said.setup_is) in
    record {
      held_right = record {
        lies = pieces_lie (length bytes) h.entries.items lies;
        channels = channels ∙ ap (λ (i : IdentFields). i.channels) (sym said.ident_is);
        some = omega (arith, channels, playable.has_channels);
        few = omega (arith, channels, few);
        short = sizes-short ∙ ap (λ (i : IdentFields). i.short) (sym said.ident_is);
        long = sizes-long ∙ ap (λ (i : IdentFields). i.long) (sym said.ident_is);
        blocks = blocks ∙ ap (λ (r : LinkRows). block_places HEADER_COUNT r.rows) rows-same;
        setup = rw channels said.right;
        playable = ∣ rw said.ident_is playable ∣₁;
        whole = ∣ rw (channels, said.setup_is) whole ∣₁;
      };
      rows_right = rows-same;
      fits = record {
        short = omega (arith, short, ap (λ (r : LinkRows). r.short) rows-are);
        long = omega (arith, long, ap (λ (r : LinkRows). r.long) rows-are);
      };
    }

-- ---- a film

-- what is kept of a film is right, where its links are read right and its index is that of their
-- rows
pub film_right : (bytes : List ℕ) (held : List HeldLink) (rows : List LinkRows) (ends : List ℕ) (index : Indexed) → AreRead bytes held rows → FitsIndex rows → ends ≡ held_ends 0 held → Indexes rows index
    → IsFilm bytes held ends index
film_right bytes held rows ends index read fits ends-are h =
    let len : length rows ≡ length held = ap length read.rows_right ∙ length-map (links_in bytes held) rows_of ∙ length-map held (link_in bytes) in
    record {
      held_right = read.held_right;
      few = omega (arith, len, fits.count);
      links = ap length h.facts ∙ length-facts 0 rows ∙ len;
      ends_right = ends-are ∙ ends_are bytes 0 held read.held_right;
      blocks = h.count ∙ ap (λ (rs : List LinkRows). all_behind 0 (map entries_of rs)) read.rows_right;
    }

-- a film has no more blocks than entries are allowed
pub film_blocks_few : (bytes : List ℕ) (held : List HeldLink) (rows : List LinkRows) → AreRead bytes held rows → FitsIndex rows → blocks_in held ≤ MOST_ENTRIES
film_blocks_few bytes held rows read fits = omega (arith, blocks_few bytes held read.held_right, ap rows_in read.rows_right, fits.rows)
