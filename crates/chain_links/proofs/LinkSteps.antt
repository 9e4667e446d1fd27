-- The links among pages, one at a time.
use Rattle.std.proofs.Common.{◌≡◌, ℕ, suc, ◌+◌, ◌<◌, ◌≤◌, Bool, true, false, List, [], ◌∷◌, ◌++◌, length, take, drop, get_or, Some, None, Ok, Err, refl, sym, ap, ◌∙◌, append_assoc, length-append, inl, inr, arith}
use Rattle.std.specs.Prelude.{Result}
use Rattle.std.proofs.lemmas.Bool.{cases_Bool, lt-ltb}
use Rattle.std.proofs.lemmas.List.{at_drop_more, drop_all, drop-drop, append-nil, length-drop}
use Rattle.model_ogg.specs.declared.page.PageRef.{PageRef}
use Rattle.model_ogg.specs.declared.link.TheConstants.{MOST_LINKS}
use Rattle.model_ogg.specs.declared.link.LinkPages.{LinkPages}
use Rattle.model_ogg.specs.declared.link.LinkFault.{LinkFault}
use Rattle.model_ogg.specs.declared.link.LinkFault.TheVariants.{NoVorbis}
use Rattle.model_ogg.specs.Streams.{is_first}
use Rattle.model_ogg.specs.Links.{begins_link, up_to_link, links_after, played, numbered, with_link, all_numbered}
use Rattle.model_ogg.proofs.LinkLaws.{up_to_link-front, up_to_link-within, up_to_link-behind, links_after-behind}

-- ---- how many pages stand before the next link

pub next-found : (b : Bool) (pages : List PageRef) (i : ℕ) (d : PageRef) → i < length pages → begins_link b (get_or pages i d) ≡ true → length (up_to_link b (drop i pages)) ≡ 0
unfolding up_to_link
next-found b pages i d lt e = let more = at_drop_more (λ (ps : List PageRef). length (up_to_link b ps)) pages i d lt in rw e at more

pub next-goes_on : (b : Bool) (pages : List PageRef) (i : ℕ) (d : PageRef) → i < length pages → begins_link b (get_or pages i d) ≡ false
    → length (up_to_link b (drop i pages)) ≡ suc (length (up_to_link (is_first (get_or pages i d)) (drop (i + 1) pages)))
unfolding up_to_link
next-goes_on b pages i d lt e = let more = at_drop_more (λ (ps : List PageRef). length (up_to_link b ps)) pages i d lt in rw e at more

pub next-none : (b : Bool) (pages : List PageRef) (i : ℕ) → length pages ≤ i → length (up_to_link b (drop i pages)) ≡ 0
unfolding up_to_link
next-none b pages i le = rw (drop_all i pages le) refl

pub ruleset next_laws = (next-found, next-goes_on, next-none)

-- ---- a link at the front

at_link : (ps : List PageRef) → 0 < length ps → up_to_link false ps ≡ [] → links_after false ps ≡ up_to_link true ps ∷ links_after false (drop (length (up_to_link true ps)) ps)
unfolding up_to_link links_after
at_link [] lt e = absurd (omega arith)
at_link (p ∷ ps) lt e =
    elim (cases_Bool (is_first p)) [
      | inl first ↦ rw first (ap (λ (links : List (List PageRef)). (p ∷ up_to_link true ps) ∷ links) (links_after-behind true ps))
      | inr other ↦ (let contrary = rw other at e in absurd (cc))
    ]

some_pages : (ps : List PageRef) → 0 < length ps → 0 < length (up_to_link true ps)
unfolding up_to_link
some_pages [] lt = absurd (omega arith)
some_pages (p ∷ ps) lt =
    elim (cases_Bool (is_first p)) [
      | inl first ↦ rw first (omega arith)
      | inr other ↦ rw other (omega arith)
    ]

pub link-there : (pages : List PageRef) (first : ℕ) → first < length pages → 0 < length (up_to_link true (drop first pages))
link-there pages first lt = some_pages (drop first pages) (omega (arith, length-drop first pages))

pub link-at : (pages : List PageRef) (first : ℕ) → first < length pages → up_to_link false (drop first pages) ≡ []
    → links_after false (drop first pages) ≡ up_to_link true (drop first pages) ∷ links_after false (drop (first + length (up_to_link true (drop first pages))) pages)
link-at pages first lt e =
    let link = up_to_link true (drop first pages) in
    at_link (drop first pages) (omega (arith, length-drop first pages)) e
    ∙ ap (λ (ps : List PageRef). link ∷ links_after false ps) (drop-drop (length link) first pages)

-- ---- links before others

unfoldable pub after_found : List LinkPages → Result (List LinkPages) LinkFault → Result (List LinkPages) LinkFault
after_found found (Ok links) = Ok (found ++ links)
after_found found (Err fault) = Err fault

pub after_none : (r : Result (List LinkPages) LinkFault) → after_found [] r ≡ r
unfolding after_found
after_none (Ok links) = refl
after_none (Err fault) = refl

after_more : (found : List LinkPages) (x : LinkPages) (r : Result (List LinkPages) LinkFault) → after_found found (with_link (Ok x) r) ≡ after_found (found ++ x ∷ []) r
unfolding after_found
after_more found x (Ok links) = ap Ok (sym (append_assoc found (x ∷ []) links))
after_more found x (Err fault) = refl

-- the loop begins
pub links_begin : (bytes : List ℕ) (pages : List PageRef) (found : List LinkPages) (first : ℕ) → found ≡ [] → first ≡ length (up_to_link false pages)
    → after_found found (all_numbered bytes (length found) first (links_after false (drop first pages))) ≡ all_numbered bytes 0 (length (up_to_link false pages)) (links_after false pages)
links_begin bytes pages found first found-is first-is = rw (found-is, first-is, ← links_after-behind false pages) (after_none _)

-- one link more
pub link_found : (bytes : List ℕ) (pages : List PageRef) (number first end : ℕ) (found now : List LinkPages) (x : LinkPages) (total : Result (List LinkPages) LinkFault) → first < length pages
    → number ≡ length found
    → end ≡ first + length (up_to_link true (drop first pages))
    → now ≡ found ++ x ∷ []
    → up_to_link false (drop first pages) ≡ []
    → numbered bytes number first (up_to_link true (drop first pages)) ≡ Ok x
    → after_found found (all_numbered bytes (length found) first (links_after false (drop first pages))) ≡ total
    → after_found now (all_numbered bytes (length now) end (links_after false (drop end pages))) ≡ total
unfolding all_numbered
link_found bytes pages number first end found now x total lt number-is end-is now-is begins is h =
    let one = rw number-is at is in
    let here = rw (link-at pages first lt begins) at h in
    let more = rw one at here in
    let len : length (found ++ x ∷ []) ≡ length found + 1 = omega (arith, length-append found (x ∷ [])) in
    rw (now-is, len, end-is) (sym (after_more found x _) ∙ more)

pub next_begins : (pages : List PageRef) (first end : ℕ) → end ≡ first + length (up_to_link true (drop first pages)) → up_to_link false (drop end pages) ≡ []
next_begins pages first end end-is =
    let link = up_to_link true (drop first pages) in
    rw end-is (ap (up_to_link false) (sym (drop-drop (length link) first pages)) ∙ up_to_link-behind true (drop first pages))

-- a link that is refused
pub link_refused : (bytes : List ℕ) (pages : List PageRef) (number first : ℕ) (found : List LinkPages) (fault : LinkFault) (total : Result (List LinkPages) LinkFault) → first < length pages
    → number ≡ length found
    → up_to_link false (drop first pages) ≡ []
    → numbered bytes number first (up_to_link true (drop first pages)) ≡ Err fault
    → after_found found (all_numbered bytes (length found) first (links_after false (drop first pages))) ≡ total
    → total ≡ Err fault
unfolding all_numbered after_found
link_refused bytes pages number first found fault total lt number-is begins is h =
    let one = rw number-is at is in
    let here = rw (link-at pages first lt begins) at h in
    sym (rw one at here)

-- all links are found
pub links_end : (bytes : List ℕ) (pages : List PageRef) (first : ℕ) (found : List LinkPages) (total : Result (List LinkPages) LinkFault) → length pages ≤ first
    → after_found found (all_numbered bytes (length found) first (links_after false (drop first pages))) ≡ total
    → total ≡ Ok found
unfolding all_numbered after_found links_after
links_end bytes pages first found total le h =
    let here = rw (drop_all first pages le) at h in
    sym here ∙ ap Ok (append-nil found)

-- ---- the parts of a link

pub link-front : (pages rest : List PageRef) (first n : ℕ) → rest ≡ drop first pages → n ≡ length (up_to_link true rest) → take n rest ≡ up_to_link true (drop first pages)
link-front pages rest first n rest-is n-is = rw (n-is, rest-is) (up_to_link-front true (drop first pages))

pub link-within : (pages : List PageRef) (first : ℕ) → first < length pages → first + length (up_to_link true (drop first pages)) ≤ length pages
link-within pages first lt = omega (arith, up_to_link-within true (drop first pages), length-drop first pages)

pub link_with : (bytes : List ℕ) (pages front : List PageRef) (number first serial : ℕ) → front ≡ up_to_link true (drop first pages) → number < MOST_LINKS → played bytes front ≡ Some serial
    → numbered bytes number first (up_to_link true (drop first pages)) ≡ Ok (record { first = first; end = first + length front; serial = serial })
link_with bytes pages front number first serial front-is few is = rw (← front-is, lt-ltb number MOST_LINKS few, is) refl

pub link_without : (bytes : List ℕ) (pages front : List PageRef) (number first : ℕ) → front ≡ up_to_link true (drop first pages) → number < MOST_LINKS → played bytes front ≡ None
    → numbered bytes number first (up_to_link true (drop first pages)) ≡ Err (NoVorbis number)
link_without bytes pages front number first front-is few is = rw (← front-is, lt-ltb number MOST_LINKS few, is) refl
