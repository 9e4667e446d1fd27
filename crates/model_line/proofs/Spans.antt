-- The line by an index's items, from single halves of blocks, is the linear decode.
use Rattle.std.proofs.Common.{◌≡◌, ℕ, zero, suc, ◌+◌, ◌-◌, List, [], ◌∷◌, ◌++◌, length, map, take, drop, refl, ap, sym, ◌∙◌, Option, Some, None}
use Rattle.std.proofs.Math.Seq.{take-nil}
use Rattle.std.specs.Prelude.{IfSome, slice_get}
use Rattle.std.specs.List.{range_with_len}
use Rattle.std.proofs.lemmas.List.{map-append, drop-drop}
use Rattle.model_line.specs.declared.item.Item.{Item}
use Rattle.model_line.specs.declared.item.Item.TheVariants as variants
use Rattle.model_line.specs.Decode.{Kind, missing, skipped, decoded, LinkEntry, LineItem, frame, gap, items_given, previous_after, linear_decode}
use Rattle.model_line.specs.Trim.{trimmed}
use Rattle.model_line.specs.Lines.{link_cuts, link_line, line}
use Rattle.model_line.specs.Origins.{overlap_len, frame_numbers, NumberedBlock, kind_at, number_after, number_behind, numbered_entries, numbered_links, Origin, origin, origins, line_origins, origins_of, listed, item_frames, line_of}
use Rattle.model_line.specs.Halves.{kind_by, entry_by, sizes_of, IsBlock, AreBlocks, AreFilmBlocks, OfBlock, OfBlocks, OfFilmBlocks}
use Rattle.model_line.proofs.Levels.{map_item, map_items, map_items-frames, trimmed-by, holds_after, cuts_by_size, origins_cuts}

-- ---- the frame of an origin, if there is one

abbrev pub value_at : {F : Type 0} → (ℕ → ℕ → List F) → Origin → Option F
value_at frames p = slice_get (frames p.first p.second) p.number

abbrev pub present_frame : {F : Type 0} → F → Option F
present_frame f = Some f

-- the frames that are there
pub present : {F : Type 0} → List (LineItem (Option F)) → List (LineItem F)
present [] = []
present (frame link None ∷ xs) = present xs
present (frame link (Some f) ∷ xs) = frame link f ∷ present xs
present (gap link kind ∷ xs) = gap link kind ∷ present xs

present-all : {F : Type 0} (xs : List (LineItem F)) → present (map_items (present_frame {F = F}) xs) ≡ xs
unfolding present
present-all [] = refl
present-all (frame link f ∷ xs) = ap (λ ys. frame link f ∷ ys) (present-all xs)
present-all (gap link kind ∷ xs) = ap (λ ys. gap link kind ∷ ys) (present-all xs)

present-append : {F : Type 0} (xs ys : List (LineItem (Option F))) → present (xs ++ ys) ≡ present xs ++ present ys
unfolding present
present-append [] ys = refl
present-append (frame link None ∷ xs) ys = present-append xs ys
present-append (frame link (Some f) ∷ xs) ys = ap (λ zs. frame link f ∷ zs) (present-append xs ys)
present-append (gap link kind ∷ xs) ys = ap (λ zs. gap link kind ∷ zs) (present-append xs ys)

-- ---- the frames between two blocks, one at a time

get_behind : {F : Type 0} (xs : List F) (a : ℕ) → slice_get xs a ≡ slice_get (drop a xs) 0
get_behind [] zero = refl
get_behind [] (suc a) = refl
get_behind (x ∷ xs) zero = refl
get_behind (x ∷ xs) (suc a) = get_behind xs a

drop_next : {F : Type 0} (xs ys : List F) (a : ℕ) → drop a xs ≡ ys → drop (a + 1) xs ≡ drop 1 ys
drop_next xs ys a e = sym (drop-drop 1 a xs) ∙ ap (drop 1) e

each_from : {F : Type 0} (xs ys : List F) (a : ℕ) → drop a xs ≡ ys → map (present_frame {F = F}) ys ≡ map (slice_get xs) (range_with_len a (length ys))
each_from xs [] a e = refl
each_from xs (y ∷ ys) a e =
    let here : slice_get xs a ≡ Some y = get_behind xs a ∙ ap (λ zs. slice_get zs 0) e in
    rw here (ap (λ zs. Some y ∷ zs) (each_from xs ys (a + 1) (drop_next xs (y ∷ ys) a e)))

window : {F : Type 0} (link : ℕ) (xs ys : List F) (a n : ℕ) → drop a xs ≡ ys → present (map (frame link) (map (slice_get xs) (range_with_len a n))) ≡ map (frame link) (take n ys)
unfolding present
window link xs ys a zero e = refl
window link xs [] a (suc n) e =
    let here : slice_get xs a ≡ None = get_behind xs a ∙ ap (λ zs. slice_get zs 0) e in
    rw here (window link xs [] (a + 1) n (drop_next xs [] a e) ∙ ap (map (frame link)) (take-nil n))
window link xs (y ∷ ys) a (suc n) e =
    let here : slice_get xs a ≡ Some y = get_behind xs a ∙ ap (λ zs. slice_get zs 0) e in
    rw here (ap (λ zs. frame link y ∷ zs) (window link xs ys (a + 1) n (drop_next xs (y ∷ ys) a e)))

origin_values : {F : Type 0} (frames : ℕ → ℕ → List F) (first second : ℕ) (ns : List ℕ) → map (value_at frames) (map (origin first second) ns) ≡ map (slice_get (frames first second)) ns
origin_values frames first second [] = refl
origin_values frames first second (n ∷ ns) = ap (λ xs. slice_get (frames first second) n ∷ xs) (origin_values frames first second ns)

-- ---- the items of a link

-- the previous block is the one of this number and size
abbrev IsAt : {B : Type 0} → (B → ℕ) → (ℕ → B) → Option B → Option NumberedBlock → Type 0
IsAt size blocks None None = Unit {0}
IsAt size blocks None (Some a) = ⊥
IsAt size blocks (Some b) None = ⊥
IsAt size blocks (Some b) (Some a) = (blocks a.number ≡ b) × (a.size ≡ size b)

between_values : {B F : Type 0} (size : B → ℕ) (blocks : ℕ → B) (between other : B → B → List F) (P : B → Type 0) → ((a b : B) → P a → P b → between a b ≡ other a b) → ((a b : B) → P a → P b → length (between a b) ≡ overlap_len (size a) (size b)) → (a b : B) (first second m n : ℕ)
    → P a → P b → blocks first ≡ a → blocks second ≡ b → m ≡ size a → n ≡ size b
    → map (present_frame {F = F}) (between a b) ≡ map (value_at (λ k l. other (blocks k) (blocks l))) (map (origin first second) (range_with_len 0 (overlap_len m n)))
between_values size blocks between other P same fits a b first second m n a-holds b-holds a-is b-is m-is n-is =
    rw (origin_values (λ k l. other (blocks k) (blocks l)) first second (range_with_len 0 (overlap_len m n)), a-is, b-is, m-is, n-is, ← fits a b a-holds b-holds, same a b a-holds b-holds) (each_from (other a b) (other a b) 0 refl)

given_values : {B F : Type 0} (size : B → ℕ) (blocks : ℕ → B) (between other : B → B → List F) (P : B → Type 0) → ((a b : B) → P a → P b → between a b ≡ other a b) → ((a b : B) → P a → P b → length (between a b) ≡ overlap_len (size a) (size b)) → (link n : ℕ) (kind : Kind B) (previous : Option B) (at : Option NumberedBlock)
    → IsAt size blocks previous at → IsBlock blocks n kind → IfSome previous P → OfBlock P kind
    → map_items (present_frame {F = F}) (items_given link between kind previous) ≡ map_items (value_at (λ k l. other (blocks k) (blocks l))) (items_given link origins (kind_at n (kind_by size kind)) at)
given_values size blocks between other P same fits link n (missing kind) previous at is_at is before here = refl
given_values size blocks between other P same fits link n skipped previous at is_at is before here = refl
given_values size blocks between other P same fits link n (decoded b) None None is_at is before here = refl
given_values size blocks between other P same fits link n (decoded b) None (Some p) is_at is before here = absurd is_at
given_values size blocks between other P same fits link n (decoded b) (Some a) None is_at is before here = absurd is_at
given_values {F = F} size blocks between other P same fits link n (decoded b) (Some a) (Some p) is_at is before here =
    map_items-frames (present_frame {F = F}) link (between a b)
    ∙ ap (map (frame link)) (between_values size blocks between other P same fits a b p.number n p.size (size b) before here is_at.0 is is_at.1 refl)
    ∙ sym (map_items-frames (value_at (λ k l. other (blocks k) (blocks l))) link (origins p (record { number = n; size = size b })))

after_at : {B : Type 0} (size : B → ℕ) (blocks : ℕ → B) (n : ℕ) (kind : Kind B) (previous : Option B) (at : Option NumberedBlock) → IsAt size blocks previous at → IsBlock blocks n kind
    → IsAt size blocks (previous_after kind previous) (previous_after (kind_at n (kind_by size kind)) at)
after_at size blocks n (missing kind) previous at is_at is = tt
after_at size blocks n skipped previous at is_at is = is_at
after_at size blocks n (decoded b) previous at is_at is = (is, refl)

number_by : {B C : Type 0} (f : B → C) (n : ℕ) (kind : Kind B) → number_after n (kind_by f kind) ≡ number_after n kind
number_by f n (missing kind) = refl
number_by f n skipped = refl
number_by f n (decoded b) = refl

behind_by : {B C : Type 0} (f : B → C) (n : ℕ) (es : List (LinkEntry B)) → number_behind n (map (entry_by f) es) ≡ number_behind n es
unfolding number_behind
behind_by f n [] = refl
behind_by f n (e ∷ es) = ap (λ k. number_behind k (map (entry_by f) es)) (number_by f n e.kind) ∙ behind_by f (number_after n e.kind) es

items_values : {B F : Type 0} (size : B → ℕ) (blocks : ℕ → B) (between other : B → B → List F) (P : B → Type 0) → ((a b : B) → P a → P b → between a b ≡ other a b) → ((a b : B) → P a → P b → length (between a b) ≡ overlap_len (size a) (size b)) → (link n : ℕ) (previous : Option B) (at : Option NumberedBlock) (es : List (LinkEntry B))
    → IsAt size blocks previous at → AreBlocks blocks n es → IfSome previous P → OfBlocks P es
    → map_items (present_frame {F = F}) (linear_decode link between previous es) ≡ map_items (value_at (λ k l. other (blocks k) (blocks l))) (linear_decode link origins at (numbered_entries n (map (entry_by size) es)))
unfolding linear_decode numbered_entries AreBlocks OfBlocks
items_values size blocks between other P same fits link n previous at [] is_at are before all = refl
items_values {F = F} size blocks between other P same fits link n previous at (e ∷ es) is_at are before all =
    let next = previous_after e.kind previous in
    let next_at = previous_after (kind_at n (kind_by size e.kind)) at in
    let here = given_values size blocks between other P same fits link n e.kind previous at is_at are.0 before all.0 in
    let more = items_values size blocks between other P same fits link (number_after n e.kind) next next_at es (after_at size blocks n e.kind previous at is_at are.0) are.1 (holds_after P e.kind previous before all.0) all.1 in
    let value = value_at (λ k l. other (blocks k) (blocks l)) in
    rw (number_by size n e.kind) (
    map-append (map_item (present_frame {F = F})) (items_given link between e.kind previous) (linear_decode link between next es)
    ∙ ap (λ xs. xs ++ map_items (present_frame {F = F}) (linear_decode link between next es)) here
    ∙ ap (λ ys. map_items value (items_given link origins (kind_at n (kind_by size e.kind)) at) ++ ys) more
    ∙ sym (map-append (map_item value) (items_given link origins (kind_at n (kind_by size e.kind)) at) (linear_decode link origins next_at (numbered_entries (number_after n e.kind) (map (entry_by size) es)))))

-- ---- the line of a link, and of a film

link_values : {B F : Type 0} (size : B → ℕ) (blocks : ℕ → B) (between other : B → B → List F) (P : B → Type 0) → ((a b : B) → P a → P b → between a b ≡ other a b) → ((a b : B) → P a → P b → length (between a b) ≡ overlap_len (size a) (size b)) → (link n : ℕ) (es : List (LinkEntry B)) → AreBlocks blocks n es → OfBlocks P es
    → map_items (present_frame {F = F}) (link_line link between es) ≡ map_items (value_at (λ k l. other (blocks k) (blocks l))) (link_line link origins (numbered_entries n (map (entry_by size) es)))
unfolding link_line
link_values {F = F} size blocks between other P same fits link n es are all =
    let sizes = map (entry_by size) es in
    let value = value_at (λ k l. other (blocks k) (blocks l)) in
    rw (cuts_by_size size between P fits es all, origins_cuts n sizes) (
    sym (trimmed-by (present_frame {F = F}) (link_cuts frame_numbers sizes) 0 (linear_decode link between None es))
    ∙ ap (trimmed (link_cuts frame_numbers sizes) 0) (items_values size blocks between other P same fits link n None None es tt are tt all)
    ∙ trimmed-by value (link_cuts frame_numbers sizes) 0 (linear_decode link origins None (numbered_entries n sizes)))

pub line_values : {B F : Type 0} (size : B → ℕ) (blocks : ℕ → B) (between other : B → B → List F) (P : B → Type 0) → ((a b : B) → P a → P b → between a b ≡ other a b) → ((a b : B) → P a → P b → length (between a b) ≡ overlap_len (size a) (size b)) → (link n : ℕ) (links : List (List (LinkEntry B))) → AreFilmBlocks blocks n links → OfFilmBlocks P links
    → map_items (present_frame {F = F}) (line between link links) ≡ map_items (value_at (λ k l. other (blocks k) (blocks l))) (line origins link (numbered_links n (sizes_of size links)))
unfolding line numbered_links AreFilmBlocks OfFilmBlocks
line_values size blocks between other P same fits link n [] are all = refl
line_values {F = F} size blocks between other P same fits link n (es ∷ links) are all =
    let sizes = map (entry_by size) es in
    let value = value_at (λ k l. other (blocks k) (blocks l)) in
    let here = link_values size blocks between other P same fits link n es are.0 all.0 in
    let more = line_values size blocks between other P same fits (link + 1) (number_behind n es) links are.1 all.1 in
    rw (behind_by size n es) (
    map-append (map_item (present_frame {F = F})) (link_line link between es) (line between (link + 1) links)
    ∙ ap (λ xs. xs ++ map_items (present_frame {F = F}) (line between (link + 1) links)) here
    ∙ ap (λ ys. map_items value (link_line link origins (numbered_entries n sizes)) ++ ys) more
    ∙ sym (map-append (map_item value) (link_line link origins (numbered_entries n sizes)) (line origins (link + 1) (numbered_links (number_behind n es) (sizes_of size links)))))

-- ---- the items of an index

item_values : {H F : Type 0} (overlap : H → H → List F) (right left : ℕ → H) (x : Item) → present (map_items (value_at (λ k l. overlap (right k) (left l))) (origins_of x)) ≡ item_frames overlap right left x
unfolding present
item_values overlap right left (variants.Gap link kind) = refl
item_values overlap right left (variants.Span s) =
    let value = value_at (λ k l. overlap (right k) (left l)) in
    let frames = overlap (right s.block) (left (s.block + 1)) in
    let ns = range_with_len s.from (s.to - s.from) in
    ap present (map_items-frames value s.link (map (origin s.block (s.block + 1)) ns) ∙ ap (map (frame s.link)) (origin_values (λ k l. overlap (right k) (left l)) s.block (s.block + 1) ns))
    ∙ window s.link frames (drop s.from frames) s.from (s.to - s.from) refl

listed_values : {H F : Type 0} (overlap : H → H → List F) (right left : ℕ → H) (xs : List Item) → present (map_items (value_at (λ k l. overlap (right k) (left l))) (listed xs)) ≡ line_of overlap right left xs
unfolding listed line_of present
listed_values overlap right left [] = refl
listed_values overlap right left (x ∷ xs) =
    let value = value_at (λ k l. overlap (right k) (left l)) in
    ap present (map-append (map_item value) (origins_of x) (listed xs))
    ∙ present-append (map_items value (origins_of x)) (map_items value (listed xs))
    ∙ ap (λ ys. ys ++ present (map_items value (listed xs))) (item_values overlap right left x)
    ∙ ap (λ ys. item_frames overlap right left x ++ ys) (listed_values overlap right left xs)

-- Items that list the origins of a line by sizes give, from single halves of any blocks of these
-- sizes, the line that is decoded from one block to the next.
pub line_of_listed : {B H F : Type 0} (size : B → ℕ) (left right : B → H) (between : B → B → List F) (overlap : H → H → List F) (P : B → Type 0)
    → ((a b : B) → P a → P b → between a b ≡ overlap (right a) (left b))
    → ((a b : B) → P a → P b → length (between a b) ≡ overlap_len (size a) (size b))
    → (blocks : ℕ → B) (links : List (List (LinkEntry B))) → AreFilmBlocks blocks 0 links → OfFilmBlocks P links → (xs : List Item) → listed xs ≡ line_origins (sizes_of size links)
    → line_of overlap (λ k. right (blocks k)) (λ k. left (blocks k)) xs ≡ line between 0 links
line_of_listed {F = F} size left right between overlap P same fits blocks links are all xs lists =
    let value = value_at (λ k l. overlap (right (blocks k)) (left (blocks l))) in
    sym (listed_values overlap (λ k. right (blocks k)) (λ k. left (blocks k)) xs)
    ∙ ap (λ ys. present (map_items value ys)) lists
    ∙ sym (ap present (line_values size blocks between (λ a b. overlap (right a) (left b)) P same fits 0 0 links are all))
    ∙ present-all (line between 0 links)
