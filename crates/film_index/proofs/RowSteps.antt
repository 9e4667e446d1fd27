-- The line of a link, one entry at a time.
use Rattle.std.proofs.Common.{◌≡◌, ℕ, ◌+◌, ◌-◌, ◌≤◌, ◌<◌, Bool, List, [], ◌∷◌, ◌++◌, length, map, refl, ap, sym, ◌∙◌, arith, ◌⊎◌, inl, inr, append_assoc, Option, Some, None}
use Rattle.std.specs.Prelude.{IfSome}
use Rattle.std.specs.List.{range_with_len}
use Rattle.std.proofs.lemmas.List.{append-nil}
use Rattle.std.proofs.lemmas.List.FromFn.{length-range_with_len, length-map-range_with_len}
use Rattle.model_line.specs.declared.trim.Cuts.{Cuts}
use Rattle.model_line.specs.declared.row.Row.{Row}
use Rattle.model_line.specs.declared.row.RowKind.{RowKind}
use Rattle.model_line.specs.declared.row.RowKind.TheVariants.{Block}
use Rattle.model_line.specs.Decode.{Kind, missing, skipped, decoded, LineItem, frame, frame_count, frames_given, items_given, previous_after, linear_decode}
use Rattle.model_line.specs.Trim.{trimmed, AtEdge}
use Rattle.model_line.specs.Origins.{overlap_len, frame_numbers, size_of, kind_of, entry_of, kind_at, number_after, number_behind, numbered_entries, Origin, origin, origins}
use Rattle.model_line.proofs.Counts.{frame_count-frames, trimmed-append}
use Rattle.model_line.proofs.Edges.{edge_passed}
use Rattle.film_index.specs.Listings.{before}

-- where an entry gives frames, a block has come before it
pub some_before : (n count : ℕ) (kind : Kind ℕ) (previous : Option ℕ) → IfSome previous (λ _. 0 < n) → count ≡ length (frames_given frame_numbers kind previous) → 0 < count → 0 < n
some_before n count (missing kind) previous some count-is lt = absurd (omega arith)
some_before n count skipped previous some count-is lt = absurd (omega arith)
some_before n count (decoded size) None some count-is lt = absurd (omega arith)
some_before n count (decoded size) (Some p) some count-is lt = some

-- a block, behind another or not
pub block_row : (cuts : Cuts) (link short long n count first : ℕ) (is_long : Bool) (kind : RowKind) (previous : Option ℕ) (old now : List (LineItem Origin)) → IfSome previous (λ _. 0 < n) → kind ≡ Block is_long
    → count ≡ length (frames_given frame_numbers (kind_of short long kind) previous)
    → now ≡ old ++ trimmed cuts first (map (frame link) (map (origin (n - 1) (n - 1 + 1)) (range_with_len 0 count)))
    → now ≡ old ++ trimmed cuts first (items_given link origins (kind_at n (kind_of short long kind)) (before n previous))
block_row cuts link short long n count first is_long kind None old now some kind-is count-is h =
    let none : count ≡ 0 = rw kind-is at count-is in
    rw kind-is (rw none at h)
block_row cuts link short long n count first is_long kind (Some p) old now some kind-is count-is h =
    let whole : count ≡ overlap_len p (size_of short long is_long) = (rw kind-is at count-is) ∙ length-range_with_len 0 (overlap_len p (size_of short long is_long)) in
    let next : n - 1 + 1 ≡ n = omega arith in
    rw kind-is (rw (next, whole) at h)

-- ---- what an entry gives and what follows

given_count : (link n : ℕ) (kind : Kind ℕ) (previous : Option ℕ) → frame_count (items_given link origins (kind_at n kind) (before n previous)) ≡ length (frames_given frame_numbers kind previous)
unfolding frame_count
given_count link n (missing kind) previous = refl
given_count link n skipped previous = refl
given_count link n (decoded size) None = refl
given_count link n (decoded size) (Some p) =
    frame_count-frames link (map (origin (n - 1) n) (range_with_len 0 (overlap_len p size)))
    ∙ length-map-range_with_len (origin (n - 1) n) 0 (overlap_len p size)
    ∙ sym (length-range_with_len 0 (overlap_len p size))

before_after : (n : ℕ) (kind : Kind ℕ) (previous : Option ℕ) → previous_after (kind_at n kind) (before n previous) ≡ before (number_after n kind) (previous_after kind previous)
before_after n (missing kind) previous = refl
before_after n skipped previous = refl
before_after n (decoded size) previous = let e : n + 1 - 1 ≡ n = omega arith in rw e refl

pub some_after : (n : ℕ) (kind : Kind ℕ) (previous : Option ℕ) → IfSome previous (λ _. 0 < n) → IfSome (previous_after kind previous) (λ _. 0 < number_after n kind)
some_after n (missing kind) previous some = tt
some_after n skipped previous some = some
some_after n (decoded size) previous some = omega arith

-- the items of the entries from one on
abbrev pub items_behind : ℕ → ℕ → ℕ → ℕ → Option ℕ → List Row → List (LineItem Origin)
items_behind link short long n previous rows = linear_decode link origins (before n previous) (numbered_entries n (map (entry_of short long) rows))

pub rows_step : (cuts : Cuts) (link short long n next frames given : ℕ) (previous after : Option ℕ) (rows : List Row) (row : Row) (behind : List Row) (old now total : List (LineItem Origin)) → rows ≡ row ∷ behind
    → now ≡ old ++ trimmed cuts frames (items_given link origins (kind_at n (kind_of short long row.kind)) (before n previous))
    → next ≡ number_after n (kind_of short long row.kind)
    → given ≡ frames + length (frames_given frame_numbers (kind_of short long row.kind) previous)
    → after ≡ previous_after (kind_of short long row.kind) previous
    → old ++ trimmed cuts frames (items_behind link short long n previous rows) ≡ total
    → now ++ trimmed cuts given (items_behind link short long next after behind) ≡ total
unfolding linear_decode numbered_entries
rows_step cuts link short long n next frames given previous after rows row behind old now total split now-is next-is given-is after-is h =
    let kind = kind_of short long row.kind in
    let here = items_given link origins (kind_at n kind) (before n previous) in
    let rest = items_behind link short long (number_after n kind) (previous_after kind previous) behind in
    let more : items_behind link short long n previous rows ≡ here ++ rest =
    ap (items_behind link short long n previous) split ∙ ap (λ p. here ++ linear_decode link origins p (numbered_entries (number_after n kind) (map (entry_of short long) behind))) (before_after n kind previous) in
    let parted = trimmed-append cuts frames here rest ∙ ap (λ k. trimmed cuts frames here ++ trimmed cuts (frames + k) rest) (given_count link n kind previous) in
    rw (now-is, next-is, given-is, after-is) (
    append_assoc old (trimmed cuts frames here) (trimmed cuts (frames + length (frames_given frame_numbers kind previous)) rest)
    ∙ ap (λ xs. old ++ xs) (sym parted)
    ∙ ap (λ xs. old ++ trimmed cuts frames xs) (sym more)
    ∙ h)

pub rows_end : (cuts : Cuts) (link short long n frames : ℕ) (previous : Option ℕ) (rows : List Row) (old total : List (LineItem Origin)) → rows ≡ []
    → old ++ trimmed cuts frames (items_behind link short long n previous rows) ≡ total → old ≡ total
unfolding linear_decode numbered_entries trimmed
rows_end cuts link short long n frames previous rows old total none h = let here = rw none at h in sym (append-nil old) ∙ here

-- ---- edges

pub edge_here : (short long frames edge : ℕ) (previous : Option ℕ) (rows : List Row) (row : Row) (behind : List Row) → rows ≡ row ∷ behind → AtEdge frame_numbers edge frames previous (map (entry_of short long) rows)
    → (edge ≤ frames) ⊎ (frames + length (frames_given frame_numbers (kind_of short long row.kind) previous) ≤ edge)
unfolding AtEdge
edge_here short long frames edge previous rows row behind split at =
    let here = rw split at at in
    elim here [ inl le ↦ inl le | inr more ↦ inr more.0 ]

pub edge_next : (short long frames given edge : ℕ) (previous after : Option ℕ) (rows : List Row) (row : Row) (behind : List Row) → rows ≡ row ∷ behind
    → given ≡ frames + length (frames_given frame_numbers (kind_of short long row.kind) previous)
    → after ≡ previous_after (kind_of short long row.kind) previous
    → AtEdge frame_numbers edge frames previous (map (entry_of short long) rows)
    → AtEdge frame_numbers edge given after (map (entry_of short long) behind)
unfolding AtEdge
edge_next short long frames given edge previous after rows row behind split given-is after-is at =
    let here = rw split at at in
    elim here [
      | inl le ↦ edge_passed frame_numbers edge given after (map (entry_of short long) behind) (omega arith)
      | inr more ↦ rw (given-is, after-is) more.1
    ]

-- ---- numbers of blocks

pub number_next : (short long n next : ℕ) (rows : List Row) (row : Row) (behind : List Row) (total : ℕ) → rows ≡ row ∷ behind → next ≡ number_after n (kind_of short long row.kind)
    → number_behind n (map (entry_of short long) rows) ≡ total → number_behind next (map (entry_of short long) behind) ≡ total
unfolding number_behind
number_next short long n next rows row behind total split next-is h = rw next-is (rw split at h)

pub number_end : (short long n : ℕ) (rows : List Row) (total : ℕ) → rows ≡ [] → number_behind n (map (entry_of short long) rows) ≡ total → n ≡ total
unfolding number_behind
number_end short long n rows total none h = rw none at h
