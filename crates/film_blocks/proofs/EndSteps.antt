-- Up to which block each link goes, one link at a time.
use Rattle.std.proofs.Common.{◌≡◌, ℕ, ◌+◌, ◌<◌, ◌≤◌, Bool, true, false, cond, List, [], ◌∷◌, ◌++◌, length, map, drop, get_or, count_by, refl, sym, ap, ◌∙◌, append_assoc, length-append, arith}
use Rattle.std.proofs.lemmas.List.{at_drop_more, drop_all, append-nil}
use Rattle.std.specs.List.{All}
use Rattle.std.proofs.lemmas.List.Elements.{All-head, All-tail}
use Rattle.std.proofs.lemmas.List.Sums.{sum_by-cons, count_by-le-length}
use Rattle.model_line.specs.declared.row.RowKind.{RowKind}
use Rattle.model_line.specs.declared.row.RowKind.TheVariants.{Lost, Bad, Skip, Block}
use Rattle.model_line.specs.declared.row.Row.{Row}
use Rattle.model_line.specs.declared.row.LinkRows.{LinkRows}
use Rattle.model_line.specs.Origins.{entry_of, entries_of, kind_of, number_after, number_behind}
use Rattle.model_line.specs.PacketRows.{rows_of}
use Rattle.film_index.specs.Bounds.{rows_in}
use Rattle.film_blocks.specs.declared.held.HeldLink.{HeldLink}
use Rattle.film_blocks.specs.declared.places.TheConstants.{HEADER_COUNT}
use Rattle.film_blocks.specs.Ends.{is_block_kind, is_block, ends_from}
use Rattle.film_blocks.specs.Held.{link_in, links_in, IsHeld, blocks_in, held_ends}
use Rattle.film_blocks.specs.Places.{block_place, block_places}

after_kind : (short long n : ℕ) (kind : RowKind) → number_after n (kind_of short long kind) ≡ n + cond (is_block_kind kind) 1 0
after_kind short long n Lost = omega arith
after_kind short long n Bad = omega arith
after_kind short long n Skip = omega arith
after_kind short long n (Block is_long) = refl

-- a link's blocks are counted
pub behind_rows : (short long n : ℕ) (rows : List Row) → number_behind n (map (entry_of short long) rows) ≡ n + count_by is_block rows
unfolding number_behind
behind_rows short long n [] = omega arith
behind_rows short long n (row ∷ rows) =
    behind_rows short long (number_after n (kind_of short long row.kind)) rows
    ∙ omega (arith, after_kind short long n row.kind, sum_by-cons (λ (x : Row). cond (is_block x) 1 0) row rows)

-- ---- the ends of links that are held, one link at a time

-- the links from one on begin with it
link_at : {Y : Type 0} (F : List HeldLink → Y) (held : List HeldLink) (i : ℕ) (h : HeldLink) → i < length held → h ≡ get_or held i h → F (drop i held) ≡ F (h ∷ drop (i + 1) held)
link_at F held i h lt is = at_drop_more F held i h lt ∙ ap (λ (x : HeldLink). F (x ∷ drop (i + 1) held)) (sym is)

pub ends_go_on : (i end : ℕ) (held : List HeldLink) (h : HeldLink) (ends now total : List ℕ) → i < length held → h ≡ get_or held i h → now ≡ ends ++ (end + length h.blocks.items) ∷ []
    → ends ++ held_ends end (drop i held) ≡ total → now ++ held_ends (end + length h.blocks.items) (drop (i + 1) held) ≡ total
unfolding held_ends
ends_go_on i end held h ends now total lt is now-is before =
    let next = end + length h.blocks.items in
    rw now-is (append_assoc ends (next ∷ []) (held_ends next (drop (i + 1) held))
    ∙ sym (link_at (λ (xs : List HeldLink). ends ++ held_ends end xs) held i h lt is) ∙ before)

pub ends_stop : (i end : ℕ) (held : List HeldLink) (ends total : List ℕ) → length held ≤ i → ends ++ held_ends end (drop i held) ≡ total → ends ≡ total
unfolding held_ends
ends_stop i end held ends total le h = let none = rw (drop_all i held le) at h in sym (append-nil ends) ∙ none

blocks_in-cons : (h : HeldLink) (held : List HeldLink) → blocks_in (h ∷ held) ≡ length h.blocks.items + blocks_in held
blocks_in-cons h held = sum_by-cons (λ (x : HeldLink). length x.blocks.items) h held

pub blocks_more : (i : ℕ) (held : List HeldLink) (h : HeldLink) → i < length held → h ≡ get_or held i h → blocks_in (drop i held) ≡ length h.blocks.items + blocks_in (drop (i + 1) held)
blocks_more i held h lt is = link_at blocks_in held i h lt is ∙ blocks_in-cons h (drop (i + 1) held)

-- ---- they are those of the rows

places_len : (place : ℕ) (rows : List Row) → length (block_places place rows) ≡ count_by is_block rows
unfolding block_places
places_len place [] = refl
places_len place (row ∷ rows) =
    length-append (block_place place row) (block_places (place + 1) rows)
    ∙ omega (arith, place_len place row (is_block row) refl, places_len (place + 1) rows, sum_by-cons (λ (x : Row). cond (is_block x) 1 0) row rows)
  where
    place_len : (place : ℕ) (row : Row) (b : Bool) → is_block row ≡ b → length (block_place place row) ≡ cond (is_block row) 1 0
    place_len place row true is = rw is refl
    place_len place row false is = rw is refl

-- a link has as many blocks as rows that are blocks
blocks_len : (bytes : List ℕ) (h : HeldLink) → IsHeld bytes h → length h.blocks.items ≡ count_by is_block (rows_of (link_in bytes h)).rows
blocks_len bytes h held = ap length held.blocks ∙ places_len HEADER_COUNT (rows_of (link_in bytes h)).rows

pub ends_are : (bytes : List ℕ) (n : ℕ) (held : List HeldLink) → All (IsHeld bytes) held → held_ends n held ≡ ends_from n (map entries_of (map rows_of (links_in bytes held)))
unfolding held_ends ends_from
ends_are bytes n [] all = refl
ends_are bytes n (h ∷ held) all =
    let rows = rows_of (link_in bytes h) in
    let first : n + length h.blocks.items ≡ number_behind n (entries_of rows) =
    ap (λ (k : ℕ). n + k) (blocks_len bytes h (All-head (IsHeld bytes) h held all)) ∙ sym (behind_rows rows.short rows.long n rows.rows) in
    rw first (ap (λ (xs : List ℕ). number_behind n (entries_of rows) ∷ xs) (ends_are bytes (number_behind n (entries_of rows)) held (All-tail (IsHeld bytes) h held all)))

-- there are no more blocks than rows
pub blocks_few : (bytes : List ℕ) (held : List HeldLink) → All (IsHeld bytes) held → blocks_in held ≤ rows_in (map rows_of (links_in bytes held))
blocks_few bytes [] all = omega arith
blocks_few bytes (h ∷ held) all =
    let rows = rows_of (link_in bytes h) in
    let others = map rows_of (links_in bytes held) in
    omega (
      arith,
      blocks_in-cons h held,
      blocks_len bytes h (All-head (IsHeld bytes) h held all),
      count_by-le-length is_block rows.rows,
      blocks_few bytes held (All-tail (IsHeld bytes) h held all),
      sum_by-cons (λ (x : LinkRows). length x.rows) rows others,
    )
