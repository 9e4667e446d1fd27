-- The links of a film, one at a time.
use Rattle.std.proofs.Common.{◌≡◌, ℕ, ◌+◌, ◌-◌, ◌<◌, ◌≤◌, Bool, true, false, nat_le, List, [], ◌∷◌, ◌++◌, length, drop, get_or, Option, Some, None, Result, Ok, Err, refl, sym, ap, ◌∙◌, append_assoc, length-drop, arith}
use Rattle.std.proofs.lemmas.Bool.{lt-ltb, le-ltb}
use Rattle.std.proofs.lemmas.List.{at_drop_more, drop_all, append-nil, length-take}
use Rattle.model_ogg.specs.declared.page.PageRef.{PageRef}
use Rattle.model_ogg.specs.declared.link.LinkPages.{LinkPages}
use Rattle.model_ogg.specs.declared.link.LinkFault.{LinkFault}
use Rattle.model_ogg.specs.Entries.{StreamItem, stream_items}
use Rattle.model_ogg.specs.Links.{pages_in, played_pages, film_links}
use Rattle.model_ogg.specs.Pages.{pages}
use Rattle.ogg_packets.specs.declared.fault.EntryFault.TheVariants.{TooMany}
use Rattle.ogg_packets.specs.Entries.{within_limit}
use Rattle.model_setup.specs.declared.head.IdentFields.{IdentFields}
use Rattle.model_setup.specs.SetupPacket.{SetupFields}
use Rattle.model_line.specs.declared.row.TheConstants.{MOST_ENTRIES}
use Rattle.model_line.specs.declared.film.LinkCounts.{LinkCounts}
use Rattle.model_line.specs.declared.film.FilmFault.{FilmFault}
use Rattle.model_line.specs.declared.film.FilmFault.TheVariants as faults
use Rattle.model_line.specs.LinkFaults.{of_links}
use Rattle.model_line.specs.LinkTests.{headers_of}
use Rattle.model_line.specs.Acceptance.{FilmLink, first_fault, unless, header_tests, counts_of, link_with, with_link, link_of, links_of, film_of}
use Rattle.film_blocks.specs.Headers.{said_by, heads_of}

-- ---- entries within a limit

more_entries : (test : Bool) (limit : ℕ) (items : List StreamItem) → nat_le (length items) limit ≡ test → within_limit limit items ≡ Err TooMany → limit < length items
more_entries true limit items is h = absurd (let e = rw is at h in cc)
more_entries false limit items is h = grind (arith, is)

pub more : (limit : ℕ) (items : List StreamItem) → within_limit limit items ≡ Err TooMany → limit < length items
more limit items h = more_entries (nat_le (length items) limit) limit items refl h

pub record IsWithin (limit : ℕ) (items found : List StreamItem) : Type 0 where
  pub same : found ≡ items
  pub few : length items ≤ limit

few_entries : (test : Bool) (limit : ℕ) (items found : List StreamItem) → nat_le (length items) limit ≡ test → within_limit limit items ≡ Ok found → IsWithin limit items found
few_entries true limit items found is h = let e = rw is at h in record { same = cc; few = grind (arith, is) }
few_entries false limit items found is h = absurd (let e = rw is at h in cc)

pub few : (limit : ℕ) (items found : List StreamItem) → within_limit limit items ≡ Ok found → IsWithin limit items found
few limit items found h = few_entries (nat_le (length items) limit) limit items found refl h

-- ---- one link

-- a link has no more pages than its film
pub pages_few : (ps : List PageRef) (link : LinkPages) → length (pages_in ps link) ≤ length ps
pages_few ps link = simp (length-take, length-drop) (omega arith)

pub too_many : (number left serial : ℕ) (stream : List PageRef) (items : List StreamItem) → left < length items → link_of number left serial stream items ≡ Err faults.TooManyPackets
unfolding link_of
too_many number left serial stream items lt = rw (lt-ltb left (length items) lt) refl

by_headers : (number left serial : ℕ) (stream : List PageRef) (items : List StreamItem) → length items ≤ left
    → link_of number left serial stream items ≡ unless (first_fault (header_tests number (headers_of items))) (link_with (counts_of serial stream items) items)
unfolding link_of
by_headers number left serial stream items le = rw (le-ltb left (length items) le) refl

unless-ok : {A B : Type 0} (found : Option FilmFault) (a : A) (b said : B) → unless found b ≡ Ok said → unless found a ≡ Ok a
unless-ok None a b said h = refl
unless-ok (Some fault) a b said h = absurd (cc)

unless-err : {A B : Type 0} (found : Option FilmFault) (a : A) (b : B) (fault : FilmFault) → unless found a ≡ Err fault → unless found b ≡ Err fault
unless-err None a b fault h = absurd (cc)
unless-err (Some other) a b fault h = let e : other ≡ fault = cc in rw e refl

pub one_link : (number left serial : ℕ) (stream : List PageRef) (items : List StreamItem) (counts : LinkCounts) (said : IdentFields × SetupFields) → length items ≤ left → counts ≡ counts_of serial stream items
    → heads_of number items ≡ Ok said → link_of number left serial stream items ≡ Ok (link_with counts items)
one_link number left serial stream items counts said le is h =
    by_headers number left serial stream items le
    ∙ rw is (unless-ok (first_fault (header_tests number (headers_of items))) (link_with (counts_of serial stream items) items) (said_by (headers_of items)) said h)

pub one_fault : (number left serial : ℕ) (stream : List PageRef) (items : List StreamItem) (fault : FilmFault) → length items ≤ left → heads_of number items ≡ Err fault
    → link_of number left serial stream items ≡ Err fault
one_fault number left serial stream items fault le h =
    by_headers number left serial stream items le
    ∙ unless-err (first_fault (header_tests number (headers_of items))) (said_by (headers_of items)) (link_with (counts_of serial stream items) items) fault h

-- ---- the links, one at a time

-- links before others
abbrev pub after_links : List FilmLink → Result (List FilmLink) FilmFault → Result (List FilmLink) FilmFault
after_links front (Ok rest) = Ok (front ++ rest)
after_links front (Err fault) = Err fault

link_pushed : (front : List FilmLink) (link : FilmLink) (others : Result (List FilmLink) FilmFault) → after_links (front ++ link ∷ []) others ≡ after_links front (with_link (Ok link) others)
link_pushed front link (Ok rest) = ap Ok (append_assoc front (link ∷ []) rest)
link_pushed front link (Err fault) = refl

abbrev pub items_in : List ℕ → List PageRef → LinkPages → List StreamItem
items_in bytes ps link = stream_items bytes (played_pages ps link)

-- the link at a place, where so many entries may still come
abbrev pub link_at : List ℕ → List PageRef → List LinkPages → ℕ → ℕ → LinkPages → Result FilmLink FilmFault
link_at bytes ps all i left d = link_of i left (get_or all i d).serial (played_pages ps (get_or all i d)) (items_in bytes ps (get_or all i d))

links_step : (bytes : List ℕ) (ps : List PageRef) (all : List LinkPages) (i left : ℕ) (d : LinkPages) → i < length all
    → links_of bytes ps i left (drop i all) ≡ with_link (link_at bytes ps all i left d) (links_of bytes ps (i + 1) (left - length (items_in bytes ps (get_or all i d))) (drop (i + 1) all))
unfolding links_of
links_step bytes ps all i left d lt = at_drop_more (links_of bytes ps i left) all i d lt

pub links_go_on : (bytes : List ℕ) (ps : List PageRef) (all : List LinkPages) (i left rest : ℕ) (d : LinkPages) (front : List FilmLink) (link : FilmLink) (total : Result (List FilmLink) FilmFault) → i < length all
    → link_at bytes ps all i left d ≡ Ok link → rest + length (items_in bytes ps (get_or all i d)) ≡ left
    → after_links front (links_of bytes ps i left (drop i all)) ≡ total
    → after_links (front ++ link ∷ []) (links_of bytes ps (i + 1) rest (drop (i + 1) all)) ≡ total
links_go_on bytes ps all i left rest d front link total lt one less h =
    let is : left - length (items_in bytes ps (get_or all i d)) ≡ rest = omega arith in
    let step = links_step bytes ps all i left d lt in
    link_pushed front link (links_of bytes ps (i + 1) rest (drop (i + 1) all))
    ∙ ap (λ (n : ℕ). after_links front (with_link (Ok link) (links_of bytes ps (i + 1) n (drop (i + 1) all)))) (sym is)
    ∙ ap (λ (r : Result FilmLink FilmFault). after_links front (with_link r (links_of bytes ps (i + 1) (left - length (items_in bytes ps (get_or all i d))) (drop (i + 1) all)))) (sym one)
    ∙ ap (after_links front) (sym step) ∙ h

pub links_fail : (bytes : List ℕ) (ps : List PageRef) (all : List LinkPages) (i left : ℕ) (d : LinkPages) (front : List FilmLink) (fault : FilmFault) (total : Result (List FilmLink) FilmFault) → i < length all
    → after_links front (links_of bytes ps i left (drop i all)) ≡ total → link_at bytes ps all i left d ≡ Err fault → total ≡ Err fault
links_fail bytes ps all i left d front fault total lt h one =
    let step = links_step bytes ps all i left d lt in
    sym h ∙ ap (after_links front) step
    ∙ ap (λ (r : Result FilmLink FilmFault). after_links front (with_link r (links_of bytes ps (i + 1) (left - length (items_in bytes ps (get_or all i d))) (drop (i + 1) all)))) one

pub links_end : (bytes : List ℕ) (ps : List PageRef) (all : List LinkPages) (i left : ℕ) (front : List FilmLink) (total : Result (List FilmLink) FilmFault) → length all ≤ i
    → after_links front (links_of bytes ps i left (drop i all)) ≡ total → total ≡ Ok front
unfolding links_of
links_end bytes ps all i left front total le h =
    let none = rw (drop_all i all le) at h in
    sym none ∙ ap Ok (append-nil front)

-- ---- a film

pub by_links : (bytes : List ℕ) (found : List LinkPages) → film_links bytes (pages bytes 0) ≡ Ok found → film_of bytes ≡ links_of bytes (pages bytes 0) 0 MOST_ENTRIES found
unfolding film_of
by_links bytes found e = rw e refl

pub by_refusal : (bytes : List ℕ) (fault : LinkFault) → film_links bytes (pages bytes 0) ≡ Err fault → film_of bytes ≡ Err (of_links fault)
unfolding film_of
by_refusal bytes fault e = rw e refl
