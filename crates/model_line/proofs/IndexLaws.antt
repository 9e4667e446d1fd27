-- What the numbers of an index are: its starts, its frames and its gaps.
use Rattle.std.proofs.Common.{◌≡◌, ℕ, zero, suc, ◌+◌, ◌-◌, ◌≤◌, ◌<◌, Bool, cond, List, [], ◌∷◌, length, map, get_or, refl, ap, ◌∙◌, arith, Option, Some, None}
use Rattle.std.specs.Prelude.{sum_by, count_by}
use Rattle.std.specs.List.{range_with_len}
use Rattle.std.proofs.lemmas.List.Sorted.{IsNonDecreasingBy-from_all_adjacent}
use Rattle.std.proofs.lemmas.List.Sums.{sum_by-cons}
use Rattle.model_line.specs.declared.row.RowKind.{RowKind}
use Rattle.model_line.specs.declared.row.RowKind.TheVariants.{Lost, Bad, Skip, Block}
use Rattle.model_line.specs.declared.row.Row.{Row}
use Rattle.model_line.specs.declared.row.LinkRows.{LinkRows}
use Rattle.model_line.specs.declared.item.Item.{Item}
use Rattle.model_line.specs.declared.item.Item.TheVariants as variants
use Rattle.model_line.specs.Decode.{Kind, missing, skipped, decoded, LinkEntry, items_given, previous_after, linear_decode, frame_count, gap_count}
use Rattle.model_line.specs.Lines.{link_cuts, link_line, line}
use Rattle.model_line.specs.Origins.{frame_numbers, kind_of, entry_of, entries_of, kind_at, number_after, number_behind, numbered_entries, numbered_links, origin, origins, origins_of, listed, starts_from}
use Rattle.model_line.specs.Index.{facts_of}
use Rattle.model_line.specs.Laws.{StartsNeverFall, item_len, SpansAddUp, is_missing, missing_count, is_gap, GapsAreMissing}
use Rattle.model_line.proofs.Counts.{frame_count-append, gap_count-append, gap_count-frames, gap_count-trimmed}
use Rattle.model_line.proofs.SpanLaws.{listed_count}

-- ---- the starts

next_start : (n : ℕ) (xs : List Item) (k d : ℕ) → k + 1 < length (starts_from n xs) → get_or (starts_from n xs) k d ≤ get_or (starts_from n xs) (k + 1) d
unfolding starts_from
next_start n [] k d lt = absurd (omega arith)
next_start n (x ∷ []) k d lt = absurd (omega arith)
next_start n (x ∷ (y ∷ xs)) zero d lt = omega arith
next_start n (x ∷ (y ∷ xs)) (suc k) d lt =
    let e : suc k + 1 ≡ suc (k + 1) = omega arith in
    rw e (next_start (n + frame_count (origins_of x)) (y ∷ xs) k d (omega arith))

pub starts_never_fall : StartsNeverFall
starts_never_fall = λ xs. IsNonDecreasingBy-from_all_adjacent (λ (n : ℕ). n) (starts_from 0 xs) (λ k d lt. next_start 0 xs k d lt)

-- ---- the frames

len_listed : (x : Item) → item_len x ≡ frame_count (origins_of x)
unfolding frame_count
len_listed (variants.Span s) = omega (arith, listed_count s)
len_listed (variants.Gap link kind) = refl

lens_listed : (xs : List Item) → sum_by item_len xs ≡ frame_count (listed xs)
unfolding listed frame_count
lens_listed [] = refl
lens_listed (x ∷ xs) = omega (arith, sum_by-cons item_len x xs, len_listed x, lens_listed xs, frame_count-append (origins_of x) (listed xs))

pub spans_add_up : SpansAddUp
spans_add_up = λ links index is. lens_listed index.items ∙ ap frame_count is.origins

-- ---- the gaps

-- how many gaps an entry gives
gaps_of_kind : {B : Type 0} → Kind B → ℕ
gaps_of_kind (missing kind) = 1
gaps_of_kind skipped = 0
gaps_of_kind (decoded b) = 0

gaps_of : {B : Type 0} → List (LinkEntry B) → ℕ
gaps_of [] = 0
gaps_of (e ∷ es) = gaps_of_kind e.kind + gaps_of es

gaps_given : {B F : Type 0} (link : ℕ) (between : B → B → List F) (kind : Kind B) (previous : Option B) → gap_count (items_given link between kind previous) ≡ gaps_of_kind kind
unfolding gap_count gaps_of_kind
gaps_given link between (missing kind) previous = refl
gaps_given link between skipped previous = refl
gaps_given link between (decoded b) None = refl
gaps_given link between (decoded b) (Some a) = gap_count-frames link (between a b)

gaps_decoded : {B F : Type 0} (link : ℕ) (between : B → B → List F) (previous : Option B) (es : List (LinkEntry B)) → gap_count (linear_decode link between previous es) ≡ gaps_of es
unfolding gap_count linear_decode gaps_of
gaps_decoded link between previous [] = refl
gaps_decoded link between previous (e ∷ es) =
    omega (arith, gap_count-append (items_given link between e.kind previous) (linear_decode link between (previous_after e.kind previous) es), gaps_given link between e.kind previous, gaps_decoded link between (previous_after e.kind previous) es)

gaps_of_link : {B F : Type 0} (link : ℕ) (between : B → B → List F) (es : List (LinkEntry B)) → gap_count (link_line link between es) ≡ gaps_of es
unfolding link_line
gaps_of_link link between es = gap_count-trimmed (link_cuts between es) 0 (linear_decode link between None es) ∙ gaps_decoded link between None es

gaps_at : (n : ℕ) (kind : Kind ℕ) → gaps_of_kind (kind_at n kind) ≡ gaps_of_kind kind
unfolding gaps_of_kind
gaps_at n (missing kind) = refl
gaps_at n skipped = refl
gaps_at n (decoded size) = refl

gaps_numbered : (n : ℕ) (es : List (LinkEntry ℕ)) → gaps_of (numbered_entries n es) ≡ gaps_of es
unfolding gaps_of numbered_entries
gaps_numbered n [] = refl
gaps_numbered n (e ∷ es) = omega (arith, gaps_at n e.kind, gaps_numbered (number_after n e.kind) es)

row_gaps : (short long : ℕ) (kind : RowKind) → gaps_of_kind (kind_of short long kind) ≡ cond (is_missing kind) 1 0
unfolding gaps_of_kind
row_gaps short long Lost = refl
row_gaps short long Bad = refl
row_gaps short long Skip = refl
row_gaps short long (Block is_long) = refl

count_cons : {X : Type 0} (p : X → Bool) (x : X) (xs : List X) → count_by p (x ∷ xs) ≡ cond (p x) 1 0 + count_by p xs
count_cons {X} p x xs = sum_by-cons (λ (y : X). cond (p y) 1 0) x xs

rows_gaps : (short long : ℕ) (rows : List Row) → gaps_of (map (entry_of short long) rows) ≡ count_by (λ (row : Row). is_missing row.kind) rows
unfolding gaps_of
rows_gaps short long [] = refl
rows_gaps short long (row ∷ rows) = omega (arith, row_gaps short long row.kind, rows_gaps short long rows, count_cons (λ (row : Row). is_missing row.kind) row rows)

film_gaps : (number n : ℕ) (links : List LinkRows) → gap_count (line origins number (numbered_links n (map entries_of links))) ≡ sum_by missing_count links
unfolding line numbered_links gap_count
film_gaps number n [] = refl
film_gaps number n (link ∷ links) =
    let es = entries_of link in
    omega (arith, gap_count-append (link_line number origins (numbered_entries n es)) (line origins (number + 1) (numbered_links (number_behind n es) (map entries_of links))), gaps_of_link number origins (numbered_entries n es), gaps_numbered n es, rows_gaps link.short link.long link.rows, film_gaps (number + 1) (number_behind n es) links, sum_by-cons missing_count link links)

gap_listed : (x : Item) (xs : List Item) → count_by is_gap (x ∷ xs) ≡ gap_count (origins_of x) + count_by is_gap xs
unfolding gap_count
gap_listed (variants.Span s) xs = omega (arith, count_cons is_gap (variants.Span s) xs, gap_count-frames s.link (map (origin s.block (s.block + 1)) (range_with_len s.from (s.to - s.from))))
gap_listed (variants.Gap link kind) xs = omega (arith, count_cons is_gap (variants.Gap link kind) xs)

gaps_listed : (xs : List Item) → count_by is_gap xs ≡ gap_count (listed xs)
unfolding listed gap_count
gaps_listed [] = refl
gaps_listed (x ∷ xs) = omega (arith, gap_listed x xs, gaps_listed xs, gap_count-append (origins_of x) (listed xs))

pub gaps_are_missing : GapsAreMissing
unfolding facts_of
gaps_are_missing = (
  λ number link. gaps_of_link number frame_numbers (entries_of link) ∙ rows_gaps link.short link.long link.rows,
  λ links index is. gaps_listed index.items ∙ ap gap_count is.origins ∙ film_gaps 0 0 links,
)
