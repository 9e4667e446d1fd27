-- The same line at two levels: what holds of the frames of one holds of those of the other, frame
-- by frame.
use Rattle.std.proofs.Common.{◌≡◌, ℕ, ◌+◌, true, false, Bool, cond, List, [], ◌∷◌, ◌++◌, length, map, refl, ap, sym, ◌∙◌, Option, Some, None}
use Rattle.std.specs.Prelude.{option_map, IfSome}
use Rattle.std.specs.List.{range_with_len}
use Rattle.model_line.specs.declared.trim.Cuts.{Cuts}
use Rattle.std.proofs.lemmas.List.{map-append}
use Rattle.model_line.specs.Decode.{Kind, missing, skipped, decoded, LinkEntry, LineItem, frame, gap, frames_behind, frames_given, items_given, previous_after, linear_decode, frame_count, gap_count}
use Rattle.model_line.specs.Trim.{marks, trimmed, stays}
use Rattle.model_line.specs.Lines.{link_cuts, link_line}
use Rattle.model_line.specs.Origins.{overlap_len, frame_numbers, NumberedBlock, kind_at, number_after, numbered_entries, Origin, origin, origins}
use Rattle.model_line.specs.Halves.{kind_by, entry_by, OfBlock, OfBlocks}
use Rattle.std.proofs.lemmas.List.FromFn.{length-range_with_len, length-map-range_with_len}

abbrev pub map_item : {F G : Type 0} → (F → G) → LineItem F → LineItem G
map_item g (frame link f) = frame link (g f)
map_item g (gap link kind) = gap link kind

abbrev pub map_items : {F G : Type 0} → (F → G) → List (LineItem F) → List (LineItem G)
map_items g xs = map (map_item g) xs

pub map_items-frames : {F G : Type 0} (g : F → G) (link : ℕ) (fs : List F) → map_items g (map (frame link) fs) ≡ map (frame link) (map g fs)
map_items-frames g link [] = refl
map_items-frames g link (f ∷ fs) = ap (λ xs. frame link (g f) ∷ xs) (map_items-frames g link fs)

kept_by : {F G : Type 0} (g : F → G) (link : ℕ) (f : F) (b : Bool) (xs : List (LineItem F)) (ys : List (LineItem G)) → ys ≡ map_items g xs → cond b (frame link (g f) ∷ []) [] ++ ys ≡ map_items g (cond b (frame link f ∷ []) [] ++ xs)
kept_by g link f true xs ys e = ap (λ zs. frame link (g f) ∷ zs) e
kept_by g link f false xs ys e = e

-- a trim looks at no frame
pub trimmed-by : {F G : Type 0} (g : F → G) (cuts : Cuts) (n : ℕ) (xs : List (LineItem F)) → trimmed cuts n (map_items g xs) ≡ map_items g (trimmed cuts n xs)
unfolding trimmed
trimmed-by g cuts n [] = refl
trimmed-by g cuts n (frame link f ∷ xs) = kept_by g link f (stays cuts n) (trimmed cuts (n + 1) xs) (trimmed cuts (n + 1) (map_items g xs)) (trimmed-by g cuts (n + 1) xs)
trimmed-by g cuts n (gap link kind ∷ xs) = ap (λ ys. gap link kind ∷ ys) (trimmed-by g cuts n xs)

pub frame_count-by : {F G : Type 0} (g : F → G) (xs : List (LineItem F)) → frame_count (map_items g xs) ≡ frame_count xs
unfolding frame_count
frame_count-by g [] = refl
frame_count-by g (frame link f ∷ xs) = ap (λ k. 1 + k) (frame_count-by g xs)
frame_count-by g (gap link kind ∷ xs) = frame_count-by g xs

pub gap_count-by : {F G : Type 0} (g : F → G) (xs : List (LineItem F)) → gap_count (map_items g xs) ≡ gap_count xs
unfolding gap_count
gap_count-by g [] = refl
gap_count-by g (frame link f ∷ xs) = gap_count-by g xs
gap_count-by g (gap link kind ∷ xs) = ap (λ k. 1 + k) (gap_count-by g xs)

-- ---- marks: they depend on sizes alone

behind_size : {B F : Type 0} (size : B → ℕ) (between : B → B → List F) (P : B → Type 0) → ((a b : B) → P a → P b → length (between a b) ≡ overlap_len (size a) (size b)) → (previous : Option B) (b : B) → IfSome previous P → P b
    → length (frames_behind between previous b) ≡ length (frames_behind frame_numbers (option_map size previous) (size b))
behind_size size between P fits None b before here = refl
behind_size size between P fits (Some a) b before here = fits a b before here ∙ sym (length-range_with_len 0 (overlap_len (size a) (size b)))

given_size : {B F : Type 0} (size : B → ℕ) (between : B → B → List F) (P : B → Type 0) → ((a b : B) → P a → P b → length (between a b) ≡ overlap_len (size a) (size b)) → (kind : Kind B) (previous : Option B) → IfSome previous P → OfBlock P kind
    → length (frames_given between kind previous) ≡ length (frames_given frame_numbers (kind_by size kind) (option_map size previous))
given_size size between P fits (missing kind) previous before here = refl
given_size size between P fits skipped previous before here = refl
given_size size between P fits (decoded b) previous before here = behind_size size between P fits previous b before here

pub holds_after : {B : Type 0} (P : B → Type 0) (kind : Kind B) (previous : Option B) → IfSome previous P → OfBlock P kind → IfSome (previous_after kind previous) P
holds_after P (missing kind) previous before here = tt
holds_after P skipped previous before here = before
holds_after P (decoded b) previous before here = here

after_by : {B C : Type 0} (f : B → C) (kind : Kind B) (previous : Option B) → option_map f (previous_after kind previous) ≡ previous_after (kind_by f kind) (option_map f previous)
after_by f (missing kind) previous = refl
after_by f skipped previous = refl
after_by f (decoded b) previous = refl

pub marks_by_size : {B F : Type 0} (size : B → ℕ) (between : B → B → List F) (P : B → Type 0) → ((a b : B) → P a → P b → length (between a b) ≡ overlap_len (size a) (size b)) → (n : ℕ) (previous : Option B) (es : List (LinkEntry B)) → IfSome previous P → OfBlocks P es
    → marks between n previous es ≡ marks frame_numbers n (option_map size previous) (map (entry_by size) es)
unfolding marks OfBlocks
marks_by_size size between P fits n previous [] before all = refl
marks_by_size size between P fits n previous (e ∷ es) before all =
    let more = marks_by_size size between P fits (n + length (frames_given between e.kind previous)) (previous_after e.kind previous) es (holds_after P e.kind previous before all.0) all.1 in
    rw (more, after_by size e.kind previous, given_size size between P fits e.kind previous before all.0) refl

-- what goes of a link depends on sizes alone
pub cuts_by_size : {B F : Type 0} (size : B → ℕ) (between : B → B → List F) (P : B → Type 0) → ((a b : B) → P a → P b → length (between a b) ≡ overlap_len (size a) (size b)) → (es : List (LinkEntry B)) → OfBlocks P es
    → link_cuts between es ≡ link_cuts frame_numbers (map (entry_by size) es)
unfolding link_cuts
cuts_by_size size between P fits es all = rw (marks_by_size size between P fits 0 None es tt all) refl

-- ---- a line known by less of its blocks and frames

given_by : {B C F G : Type 0} (f : B → C) (g : F → G) (between : B → B → List F) (other : C → C → List G) → ((a b : B) → other (f a) (f b) ≡ map g (between a b))
    → (link : ℕ) (kind : Kind B) (previous : Option B) → items_given link other (kind_by f kind) (option_map f previous) ≡ map_items g (items_given link between kind previous)
given_by f g between other same link (missing kind) previous = refl
given_by f g between other same link skipped previous = refl
given_by f g between other same link (decoded b) None = refl
given_by f g between other same link (decoded b) (Some a) = ap (map (frame link)) (same a b) ∙ sym (map_items-frames g link (between a b))

pub items_by : {B C F G : Type 0} (f : B → C) (g : F → G) (between : B → B → List F) (other : C → C → List G) → ((a b : B) → other (f a) (f b) ≡ map g (between a b))
    → (link : ℕ) (previous : Option B) (es : List (LinkEntry B)) → linear_decode link other (option_map f previous) (map (entry_by f) es) ≡ map_items g (linear_decode link between previous es)
unfolding linear_decode
items_by f g between other same link previous [] = refl
items_by f g between other same link previous (e ∷ es) =
    let more = items_by f g between other same link (previous_after e.kind previous) es in
    rw (← after_by f e.kind previous, more, given_by f g between other same link e.kind previous) (sym (map-append (map_item g) (items_given link between e.kind previous) (linear_decode link between (previous_after e.kind previous) es)))

-- ---- origins and counts

-- what holds of every block holds of those of a link
abbrev pub Any : {B : Type 0} → B → Type 0
Any b = Unit {0}

any_block : {B : Type 0} (kind : Kind B) → OfBlock Any kind
any_block (missing kind) = tt
any_block skipped = tt
any_block (decoded b) = tt

pub any_blocks : {B : Type 0} (es : List (LinkEntry B)) → OfBlocks Any es
unfolding OfBlocks
any_blocks [] = tt
any_blocks (e ∷ es) = (any_block e.kind, any_blocks es)

origins_fit : (a b : NumberedBlock) → Any a → Any b → length (origins a b) ≡ overlap_len a.size b.size
origins_fit a b any more = length-map-range_with_len (origin a.number b.number) 0 (overlap_len a.size b.size)

origins_numbers : (first second : ℕ) (ns : List ℕ) → ns ≡ map (λ (p : Origin). p.number) (map (origin first second) ns)
origins_numbers first second [] = refl
origins_numbers first second (n ∷ ns) = ap (λ xs. n ∷ xs) (origins_numbers first second ns)

kind_unnumbered : (n : ℕ) (kind : Kind ℕ) → kind_by (λ (a : NumberedBlock). a.size) (kind_at n kind) ≡ kind
kind_unnumbered n (missing kind) = refl
kind_unnumbered n skipped = refl
kind_unnumbered n (decoded size) = refl

pub unnumbered : (n : ℕ) (es : List (LinkEntry ℕ)) → map (entry_by (λ (a : NumberedBlock). a.size)) (numbered_entries n es) ≡ es
unfolding numbered_entries
unnumbered n [] = refl
unnumbered n (e ∷ es) = rw (kind_unnumbered n e.kind, unnumbered (number_after n e.kind) es) refl

pub origins_cuts : (n : ℕ) (es : List (LinkEntry ℕ)) → link_cuts origins (numbered_entries n es) ≡ link_cuts frame_numbers es
origins_cuts n es = cuts_by_size (λ (a : NumberedBlock). a.size) origins Any origins_fit (numbered_entries n es) (any_blocks (numbered_entries n es)) ∙ ap (link_cuts frame_numbers) (unnumbered n es)

-- the line of a link by counts is that by origins, its frames known by their numbers alone
pub counts_line : (link n : ℕ) (es : List (LinkEntry ℕ)) → link_line link frame_numbers es ≡ map_items (λ (p : Origin). p.number) (link_line link origins (numbered_entries n es))
unfolding link_line
counts_line link n es =
    let whole = items_by (λ (a : NumberedBlock). a.size) (λ (p : Origin). p.number) origins frame_numbers (λ a b. origins_numbers a.number b.number (range_with_len 0 (overlap_len a.size b.size))) link None (numbered_entries n es) in
    let known = rw (unnumbered n es) at whole in
    rw (known, origins_cuts n es) (trimmed-by (λ (p : Origin). p.number) (link_cuts frame_numbers es) 0 (linear_decode link origins None (numbered_entries n es)))
