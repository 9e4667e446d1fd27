-- The pages of headers, and the links of a film, one behind the other.
use Rattle.std.proofs.Common.{◌≡◌, ℕ, zero, suc, ◌+◌, ◌/◌, ◌%◌, ◌<◌, ◌≤◌, List, [], ◌∷◌, ◌++◌, length, get_or, drop, replicate, refl, sym, ap, ◌∙◌, arith, append-nil, append_assoc, length-append, lit≤}
use Rattle.std.specs.List.{flat_map}
use Rattle.std.proofs.lemmas.List.{length-replicate, drop_all}
use Rattle.std.proofs.lemmas.List.Concat.{flat_map-append}
use Rattle.rand_pcg.specs.Lcg.{Lcg}
use Rattle.model_ogg.specs.Writing.{PageFields, written_page, written_pages}
use Rattle.model_trial.specs.Draws.{generator, draw_each}
use Rattle.model_trial.specs.MadeFilm.{MadeLink, DrawnLink, made_links, ident_packet, comment_packet, setup_packet, packet_laces, drawn_link, drawn_links, link_pages, made_pages, made_film}
use Rattle.film_maker.specs.declared.links.MadeLink as held
use Rattle.film_maker.specs.declared.links.TheConstants.{MADE_LINKS}
use Rattle.film_maker.specs.Drawn.{made_link_of}
use Rattle.film_maker.specs.Pages.{header_pages, pages_of_audio}
use Rattle.film_maker.proofs.Tables.{setup_packet_len}

-- ---- the pages of headers

packet_laces_len : (packet : List ℕ) → length (packet_laces packet) ≡ length packet / 255 + 1
packet_laces_len packet = length-append (replicate (length packet / 255) 255) (length packet % 255 ∷ []) ∙ omega (arith, length-replicate {A = ℕ} (length packet / 255) 255)

ident_len : (link : MadeLink) → length (ident_packet link) ≡ 30
unfolding ident_packet
ident_len link = refl

comment_len : length comment_packet ≡ 16
unfolding comment_packet
comment_len = refl

pub ident_laces : (link : MadeLink) (packet : List ℕ) → packet ≡ ident_packet link → length (packet_laces packet ++ []) ≤ 255
ident_laces link packet is =
    omega (arith, length-append (packet_laces packet) [], packet_laces_len packet, ap length is, ident_len link)

pub header_laces : (link : MadeLink) (comment setup : List ℕ) → 1 ≤ link.channels → link.channels ≤ 2 → comment ≡ comment_packet → setup ≡ setup_packet link → length (packet_laces comment ++ (packet_laces setup ++ [])) ≤ 255
header_laces link comment setup some few comment_is setup_is =
    omega (arith, length-append (packet_laces comment) (packet_laces setup ++ []), length-append (packet_laces setup) [], packet_laces_len comment, packet_laces_len setup, ap length comment_is, comment_len, ap length setup_is, setup_packet_len link some few)

-- ---- links

pages_are : (drawn : DrawnLink) → header_pages drawn.link ++ pages_of_audio drawn ≡ link_pages drawn
unfolding link_pages
pages_are drawn = refl

pub link_written : (drawn : DrawnLink) (old mid new : List ℕ) → mid ≡ old ++ written_pages (header_pages drawn.link) → new ≡ mid ++ written_pages (pages_of_audio drawn) → new ≡ old ++ written_pages (link_pages drawn)
link_written drawn old mid new headers audio =
    let hs = header_pages drawn.link in
    let ps = pages_of_audio drawn in
    audio ∙ ap (λ (bs : List ℕ). bs ++ written_pages ps) headers
    ∙ append_assoc old (written_pages hs) (written_pages ps)
    ∙ ap (λ (bs : List ℕ). old ++ bs) (sym (flat_map-append written_page hs ps))
    ∙ ap (λ (qs : List PageFields). old ++ written_pages qs) (pages_are drawn)

-- a film so far, with the links that are still drawn
abbrev pub with_links : List ℕ → List MadeLink → Lcg → List ℕ
with_links film links g = film ++ written_pages (flat_map link_pages (draw_each drawn_link links g).0)

one_more : (x : MadeLink) (xs : List MadeLink) (film after : List ℕ) (drawn : DrawnLink) (g h : Lcg) → let now : DrawnLink × Lcg = (drawn, h) in now ≡ drawn_link x g → after ≡ film ++ written_pages (link_pages drawn)
    → with_links after xs h ≡ with_links film (x ∷ xs) g
one_more x xs film after drawn g h is now =
    let y = (drawn_link x g).0 in
    let ys = (draw_each drawn_link xs (drawn_link x g).1).0 in
    ap (λ (bs : List ℕ). with_links bs xs h) now
    ∙ ap (λ (p : DrawnLink × Lcg). with_links (film ++ written_pages (link_pages p.0)) xs p.1) is
    ∙ append_assoc film (written_pages (link_pages y)) (written_pages (flat_map link_pages ys))
    ∙ ap (λ (bs : List ℕ). film ++ bs) (sym (flat_map-append written_page (link_pages y) (flat_map link_pages ys)))

links_from : (i : ℕ) (d : held.MadeLink) → i < 3 → drop i made_links ≡ made_link_of (get_or MADE_LINKS i d) ∷ drop (i + 1) made_links
links_from zero d low = refl
links_from (suc zero) d low = refl
links_from (suc (suc zero)) d low = refl
links_from (suc (suc (suc i))) d low = absurd (omega arith)

pub one_link_more : (i : ℕ) (d : held.MadeLink) (film after : List ℕ) (drawn : DrawnLink) (g h : Lcg) → i < 3 → let now : DrawnLink × Lcg = (drawn, h) in now ≡ drawn_link (made_link_of (get_or MADE_LINKS i d)) g → after ≡ film ++ written_pages (link_pages drawn)
    → with_links after (drop (i + 1) made_links) h ≡ with_links film (drop i made_links) g
one_link_more i d film after drawn g h low is now =
    one_more (made_link_of (get_or MADE_LINKS i d)) (drop (i + 1) made_links) film after drawn g h is now
    ∙ sym (ap (λ (ls : List MadeLink). with_links film ls g) (links_from i d low))

pub no_links_yet : (number : ℕ) (g : Lcg) → g ≡ generator number → with_links [] (drop 0 made_links) g ≡ made_film number
unfolding made_film made_pages drawn_links
no_links_yet number g is = ap (λ h. with_links [] made_links h) is

pub all_links : (i : ℕ) (film : List ℕ) (g : Lcg) → 3 ≤ i → film ≡ with_links film (drop i made_links) g
all_links i film g end =
    sym (append-nil film) ∙ sym (ap (λ (ls : List MadeLink). with_links film ls g) (drop_all i made_links end))

channels_of_links : (i : ℕ) (d : held.MadeLink) → i < 3 → (1 ≤ (get_or MADE_LINKS i d).channels) × ((get_or MADE_LINKS i d).channels ≤ 2)
channels_of_links zero d low = (lit≤ tt, lit≤ tt)
channels_of_links (suc zero) d low = (lit≤ tt, lit≤ tt)
channels_of_links (suc (suc zero)) d low = (lit≤ tt, lit≤ tt)
channels_of_links (suc (suc (suc i))) d low = absurd (omega arith)

pub channels_at : (i : ℕ) (d link : held.MadeLink) → i < 3 → link ≡ get_or MADE_LINKS i d → (1 ≤ link.channels) × (link.channels ≤ 2)
channels_at i d link low is =
    let same = ap (λ (l : held.MadeLink). l.channels) is in
    let bounds = channels_of_links i d low in
    (omega (arith, same, bounds.0), omega (arith, same, bounds.1))
