-- The blocks of a span are of its link.
use Rattle.std.proofs.Common.{◌≡◌, ℕ, suc, ◌+◌, ◌-◌, ◌≤◌, ◌<◌, true, false, Bool, cond, List, [], ◌∷◌, ◌++◌, map, refl, sym, arith, Option, Some, None}
use Rattle.std.specs.Prelude.{IfSome}
use Rattle.std.specs.List.{All, range_with_len}
use Rattle.std.proofs.lemmas.Bool.{lt-ltb, le-ltb}
use Rattle.std.proofs.lemmas.List.Elements.{All-nil, All-cons, All-head, All-tail}
use Rattle.model_line.specs.declared.trim.Cuts.{Cuts}
use Rattle.model_line.specs.declared.item.Item.{Item}
use Rattle.model_line.specs.declared.item.Item.TheVariants as variants
use Rattle.model_line.specs.Decode.{Kind, missing, skipped, decoded, LinkEntry, LineItem, frame, gap, items_given, previous_after, linear_decode}
use Rattle.model_line.specs.Trim.{trimmed, stays}
use Rattle.model_line.specs.Lines.{link_cuts, link_line, line}
use Rattle.model_line.specs.Origins.{overlap_len, NumberedBlock, kind_at, number_after, number_behind, numbered_entries, numbered_links, Origin, origin, origins, origins_of, listed, HasFrame}
use Rattle.model_line.specs.Laws.{block_link, IsOfLink, SpansOfLinks}

-- something holds of each frame of a line
Holds : (ℕ → Origin → Type 0) → List (LineItem Origin) → Type 0
Holds Q [] = Unit {0}
Holds Q (frame link p ∷ xs) = Q link p × Holds Q xs
Holds Q (gap link kind ∷ xs) = Holds Q xs

holds_append : (Q : ℕ → Origin → Type 0) (xs ys : List (LineItem Origin)) → Holds Q xs → Holds Q ys → Holds Q (xs ++ ys)
unfolding Holds
holds_append Q [] ys here more = more
holds_append Q (frame link p ∷ xs) ys here more = (here.0, holds_append Q xs ys here.1 more)
holds_append Q (gap link kind ∷ xs) ys here more = holds_append Q xs ys here more

holds_front : (Q : ℕ → Origin → Type 0) (xs ys : List (LineItem Origin)) → Holds Q (xs ++ ys) → Holds Q xs
unfolding Holds
holds_front Q [] ys here = tt
holds_front Q (frame link p ∷ xs) ys here = (here.0, holds_front Q xs ys here.1)
holds_front Q (gap link kind ∷ xs) ys here = holds_front Q xs ys here

holds_behind : (Q : ℕ → Origin → Type 0) (xs ys : List (LineItem Origin)) → Holds Q (xs ++ ys) → Holds Q ys
unfolding Holds
holds_behind Q [] ys here = here
holds_behind Q (frame link p ∷ xs) ys here = holds_behind Q xs ys here.1
holds_behind Q (gap link kind ∷ xs) ys here = holds_behind Q xs ys here

holds_more : (Q R : ℕ → Origin → Type 0) (xs : List (LineItem Origin)) → ((link : ℕ) (p : Origin) → Q link p → R link p) → Holds Q xs → Holds R xs
unfolding Holds
holds_more Q R [] more here = tt
holds_more Q R (frame link p ∷ xs) more here = (more link p here.0, holds_more Q R xs more here.1)
holds_more Q R (gap link kind ∷ xs) more here = holds_more Q R xs more here

holds_kept : (Q : ℕ → Origin → Type 0) (link : ℕ) (p : Origin) (b : Bool) → Q link p → Holds Q (cond b (frame link p ∷ []) [])
unfolding Holds
holds_kept Q link p true here = (here, tt)
holds_kept Q link p false here = tt

holds_trimmed : (Q : ℕ → Origin → Type 0) (cuts : Cuts) (n : ℕ) (xs : List (LineItem Origin)) → Holds Q xs → Holds Q (trimmed cuts n xs)
unfolding Holds trimmed
holds_trimmed Q cuts n [] here = tt
holds_trimmed Q cuts n (frame link p ∷ xs) here = holds_append Q (cond (stays cuts n) (frame link p ∷ []) []) (trimmed cuts (n + 1) xs) (holds_kept Q link p (stays cuts n) here.0) (holds_trimmed Q cuts (n + 1) xs here.1)
holds_trimmed Q cuts n (gap link kind ∷ xs) here = holds_trimmed Q cuts n xs here

holds_origins : (Q : ℕ → Origin → Type 0) (link first second : ℕ) (ns : List ℕ) → ((j : ℕ) → Q link (origin first second j)) → Holds Q (map (frame link) (map (origin first second) ns))
unfolding Holds
holds_origins Q link first second [] all = tt
holds_origins Q link first second (n ∷ ns) all = (all n, holds_origins Q link first second ns all)

-- ---- the frames of a link lie between its blocks

behind_le : {B : Type 0} (n : ℕ) (kind : Kind B) → n ≤ number_after n kind
behind_le n (missing kind) = omega arith
behind_le n skipped = omega arith
behind_le n (decoded b) = omega arith

link_le : {B : Type 0} (n : ℕ) (es : List (LinkEntry B)) → n ≤ number_behind n es
unfolding number_behind
link_le n [] = omega arith
link_le n (e ∷ es) = omega (arith, behind_le n e.kind, link_le (number_after n e.kind) es)

-- both blocks of a frame of this link are among those numbered from one to another
abbrev Lies : ℕ → ℕ → ℕ → ℕ → Origin → Type 0
Lies here low high link p = (link ≡ here) × (low ≤ p.first) × (p.first < high) × (low ≤ p.second) × (p.second < high)

abbrev IsAmong : ℕ → ℕ → NumberedBlock → Type 0
IsAmong low high a = (low ≤ a.number) × (a.number < high)

given_lies : (link low high n : ℕ) (kind : Kind ℕ) (previous : Option NumberedBlock) → low ≤ n → number_after n kind ≤ high → IfSome previous (IsAmong low high) → Holds (Lies link low high) (items_given link origins (kind_at n kind) previous)
unfolding Holds
given_lies link low high n (missing kind) previous le fits among = tt
given_lies link low high n skipped previous le fits among = tt
given_lies link low high n (decoded size) None le fits among = tt
given_lies link low high n (decoded size) (Some a) le fits among = holds_origins (Lies link low high) link a.number n (range_with_len 0 (overlap_len a.size size)) (λ j. (refl, among.0, among.1, le, omega (arith, fits)))

among_after : (low high n : ℕ) (kind : Kind ℕ) (previous : Option NumberedBlock) → low ≤ n → number_after n kind ≤ high → IfSome previous (IsAmong low high) → IfSome (previous_after (kind_at n kind) previous) (IsAmong low high)
among_after low high n (missing kind) previous le fits among = tt
among_after low high n skipped previous le fits among = among
among_after low high n (decoded size) previous le fits among = (le, omega (arith, fits))

items_lie : (link low high n : ℕ) (previous : Option NumberedBlock) (es : List (LinkEntry ℕ)) → low ≤ n → number_behind n es ≤ high → IfSome previous (IsAmong low high) → Holds (Lies link low high) (linear_decode link origins previous (numbered_entries n es))
unfolding Holds linear_decode numbered_entries number_behind
items_lie link low high n previous [] le fits among = tt
items_lie link low high n previous (e ∷ es) le fits among =
    let next = number_after n e.kind in
    let within : next ≤ high = omega (arith, fits, link_le next es) in
    holds_append (Lies link low high) (items_given link origins (kind_at n e.kind) previous) (linear_decode link origins (previous_after (kind_at n e.kind) previous) (numbered_entries next es))
    (given_lies link low high n e.kind previous le within among)
    (items_lie link low high next (previous_after (kind_at n e.kind) previous) es (omega (arith, le, behind_le n e.kind)) fits (among_after low high n e.kind previous le within among))

link_lies : (link n : ℕ) (es : List (LinkEntry ℕ)) → Holds (Lies link n (number_behind n es)) (link_line link origins (numbered_entries n es))
unfolding link_line
link_lies link n es = holds_trimmed (Lies link n (number_behind n es)) (link_cuts origins (numbered_entries n es)) 0 (linear_decode link origins None (numbered_entries n es)) (items_lie link n (number_behind n es) n None es (omega arith) (omega arith) tt)

-- ---- and so do those of all links

abbrev Linked : ℕ → ℕ → List (List (LinkEntry ℕ)) → ℕ → Origin → Type 0
Linked number n links link p = (n ≤ p.first) × (n ≤ p.second) × (block_link number n links p.first ≡ link) × (block_link number n links p.second ≡ link)

line_linked : (number n : ℕ) (links : List (List (LinkEntry ℕ))) → Holds (Linked number n links) (line origins number (numbered_links n links))
unfolding Holds line numbered_links block_link
line_linked number n [] = tt
line_linked number n (es ∷ links) =
    let high = number_behind n es in
    holds_append (Linked number n (es ∷ links)) (link_line number origins (numbered_entries n es)) (line origins (number + 1) (numbered_links high links))
    (holds_more (Lies number n high) (Linked number n (es ∷ links)) (link_line number origins (numbered_entries n es))
    (λ link p lies. (lies.1, lies.3, rw (lt-ltb p.first high lies.2) (sym lies.0), rw (lt-ltb p.second high lies.4) (sym lies.0))) (link_lies number n es))
    (holds_more (Linked (number + 1) high links) (Linked number n (es ∷ links)) (line origins (number + 1) (numbered_links high links))
    (λ link p linked. (omega (arith, linked.0, link_le n es), omega (arith, linked.1, link_le n es), rw (le-ltb p.first high linked.0) linked.2, rw (le-ltb p.second high linked.1) linked.3))
    (line_linked (number + 1) high links))

-- ---- spans

item_linked : (links : List (List (LinkEntry ℕ))) (x : Item) → HasFrame x → Holds (Linked 0 0 links) (origins_of x) → IsOfLink (block_link 0 0 links) x
unfolding Holds
item_linked links (variants.Gap link kind) has holds = tt
item_linked links (variants.Span s) has holds =
    let some : s.to - s.from ≡ suc (s.to - s.from - 1) = omega (arith, has) in
    let first = rw some at holds in
    (first.0.2, first.0.3)

items_linked : (links : List (List (LinkEntry ℕ))) (xs : List Item) → All HasFrame xs → Holds (Linked 0 0 links) (listed xs) → All (IsOfLink (block_link 0 0 links)) xs
unfolding listed
items_linked links [] has holds = All-nil (IsOfLink (block_link 0 0 links))
items_linked links (x ∷ xs) has holds = All-cons (IsOfLink (block_link 0 0 links)) x xs
    (item_linked links x (All-head HasFrame x xs has) (holds_front (Linked 0 0 links) (origins_of x) (listed xs) holds))
    (items_linked links xs (All-tail HasFrame x xs has) (holds_behind (Linked 0 0 links) (origins_of x) (listed xs) holds))

pub spans_of_links : SpansOfLinks
spans_of_links = λ links xs lists has. items_linked links xs has (rw lists (line_linked 0 0 links))
