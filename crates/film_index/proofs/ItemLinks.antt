-- The link of each item of a line is one of the film's.
use Rattle.std.proofs.Common.{◌≡◌, ℕ, suc, ◌+◌, ◌-◌, ◌≤◌, ◌<◌, true, false, Bool, cond, List, [], ◌∷◌, ◌++◌, length, map, arith, Option, None}
use Rattle.std.specs.List.{All}
use Rattle.std.proofs.lemmas.List.Elements.{All-nil, All-cons, All-head, All-tail}
use Rattle.model_line.specs.declared.trim.Cuts.{Cuts}
use Rattle.model_line.specs.declared.item.Item.{Item}
use Rattle.model_line.specs.declared.item.Item.TheVariants as variants
use Rattle.model_line.specs.Decode.{Kind, missing, skipped, decoded, LinkEntry, LineItem, frame, gap, frames_behind, items_given, previous_after, linear_decode}
use Rattle.model_line.specs.Trim.{trimmed, stays}
use Rattle.model_line.specs.Lines.{link_cuts, link_line, line}
use Rattle.model_line.specs.Origins.{NumberedBlock, number_behind, numbered_links, numbered_entries, Origin, origins, origins_of, line_origins, listed, HasFrame}
use Rattle.film_index.specs.Items.{HasLink}

-- the links of all items of a line are below this number
Below : ℕ → List (LineItem Origin) → Type 0
Below n [] = Unit {0}
Below n (frame link p ∷ xs) = (link < n) × Below n xs
Below n (gap link kind ∷ xs) = (link < n) × Below n xs

below_append : (n : ℕ) (xs ys : List (LineItem Origin)) → Below n xs → Below n ys → Below n (xs ++ ys)
unfolding Below
below_append n [] ys here more = more
below_append n (frame link p ∷ xs) ys here more = (here.0, below_append n xs ys here.1 more)
below_append n (gap link kind ∷ xs) ys here more = (here.0, below_append n xs ys here.1 more)

below_front : (n : ℕ) (xs ys : List (LineItem Origin)) → Below n (xs ++ ys) → Below n xs
unfolding Below
below_front n [] ys here = tt
below_front n (frame link p ∷ xs) ys here = (here.0, below_front n xs ys here.1)
below_front n (gap link kind ∷ xs) ys here = (here.0, below_front n xs ys here.1)

below_after : (n : ℕ) (xs ys : List (LineItem Origin)) → Below n (xs ++ ys) → Below n ys
unfolding Below
below_after n [] ys here = here
below_after n (frame link p ∷ xs) ys here = below_after n xs ys here.1
below_after n (gap link kind ∷ xs) ys here = below_after n xs ys here.1

below_kept : (n link : ℕ) (p : Origin) (b : Bool) → link < n → Below n (cond b (frame link p ∷ []) [])
unfolding Below
below_kept n link p true lt = (lt, tt)
below_kept n link p false lt = tt

below_trimmed : (n : ℕ) (cuts : Cuts) (i : ℕ) (xs : List (LineItem Origin)) → Below n xs → Below n (trimmed cuts i xs)
unfolding Below trimmed
below_trimmed n cuts i [] here = tt
below_trimmed n cuts i (frame link p ∷ xs) here = below_append n (cond (stays cuts i) (frame link p ∷ []) []) (trimmed cuts (i + 1) xs) (below_kept n link p (stays cuts i) here.0) (below_trimmed n cuts (i + 1) xs here.1)
below_trimmed n cuts i (gap link kind ∷ xs) here = (here.0, below_trimmed n cuts i xs here.1)

below_frames : (n link : ℕ) (ps : List Origin) → link < n → Below n (map (frame link) ps)
unfolding Below
below_frames n link [] lt = tt
below_frames n link (p ∷ ps) lt = (lt, below_frames n link ps lt)

given_below : (n link : ℕ) (kind : Kind NumberedBlock) (previous : Option NumberedBlock) → link < n → Below n (items_given link origins kind previous)
unfolding Below
given_below n link (missing kind) previous lt = (lt, tt)
given_below n link skipped previous lt = tt
given_below n link (decoded b) previous lt = below_frames n link (frames_behind origins previous b) lt

decoded_below : (n link : ℕ) (previous : Option NumberedBlock) (es : List (LinkEntry NumberedBlock)) → link < n → Below n (linear_decode link origins previous es)
unfolding Below linear_decode
decoded_below n link previous [] lt = tt
decoded_below n link previous (e ∷ es) lt =
    below_append n (items_given link origins e.kind previous) (linear_decode link origins (previous_after e.kind previous) es)
    (given_below n link e.kind previous lt) (decoded_below n link (previous_after e.kind previous) es lt)

link_below : (n link : ℕ) (es : List (LinkEntry NumberedBlock)) → link < n → Below n (link_line link origins es)
unfolding link_line
link_below n link es lt = below_trimmed n (link_cuts origins es) 0 (linear_decode link origins None es) (decoded_below n link None es lt)

line_below : (n number first : ℕ) (links : List (List (LinkEntry ℕ))) → number + length links ≤ n → Below n (line origins number (numbered_links first links))
unfolding Below line numbered_links
line_below n number first [] le = tt
line_below n number first (es ∷ links) le =
    below_append n (link_line number origins (numbered_entries first es)) (line origins (number + 1) (numbered_links (number_behind first es) links))
    (link_below n number (numbered_entries first es) (omega (arith, le)))
    (line_below n (number + 1) (number_behind first es) links (omega (arith, le)))

-- ---- items

item_linked : (n : ℕ) (x : Item) → HasFrame x → Below n (origins_of x) → HasLink n x
unfolding Below
item_linked n (variants.Gap link kind) has below = below.0
item_linked n (variants.Span s) has below =
    let some : s.to - s.from ≡ suc (s.to - s.from - 1) = omega (arith, has) in
    let first = rw some at below in
    first.0

items_linked : (n : ℕ) (xs : List Item) → All HasFrame xs → Below n (listed xs) → All (HasLink n) xs
unfolding listed
items_linked n [] has below = All-nil (HasLink n)
items_linked n (x ∷ xs) has below = All-cons (HasLink n) x xs
    (item_linked n x (All-head HasFrame x xs has) (below_front n (origins_of x) (listed xs) below))
    (items_linked n xs (All-tail HasFrame x xs has) (below_after n (origins_of x) (listed xs) below))

-- items that list the line of so many links have links among them
pub links_of_items : (n : ℕ) (links : List (List (LinkEntry ℕ))) (xs : List Item) → length links ≤ n → listed xs ≡ line_origins links → All HasFrame xs → All (HasLink n) xs
links_of_items n links xs few lists has = items_linked n xs has (rw lists (line_below n 0 0 links (omega (arith, few))))
