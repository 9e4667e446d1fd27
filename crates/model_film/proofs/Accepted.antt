-- The links of an accepted film have what their blocks rest on.
use Rattle.std.proofs.Common.{◌≡◌, ◌+◌, ◌-◌, ℕ, List, [], ◌∷◌, length, Option, Some, None, Result, Ok, Err, refl, subst, arith}
use Rattle.std.specs.List.{All}
use Rattle.std.specs.Option.{option_map_or}
use Rattle.std.specs.Result.{result_unwrap_or}
use Rattle.std.proofs.lemmas.List.Elements.{All-nil, All-cons}
use Rattle.model_ogg.specs.declared.page.PageRef.{PageRef}
use Rattle.model_ogg.specs.declared.link.LinkFault.{LinkFault}
use Rattle.model_ogg.specs.declared.link.LinkPages.{LinkPages}
use Rattle.model_ogg.specs.Pages.{pages}
use Rattle.model_ogg.specs.Entries.{StreamItem, stream_items}
use Rattle.model_ogg.specs.Links.{film_links, played_pages}
use Rattle.model_setup.specs.declared.head.IdentFields.{IdentFields}
use Rattle.model_setup.specs.declared.head.IdentCause.{IdentCause}
use Rattle.model_setup.specs.declared.setup.SetupFault.{SetupFault}
use Rattle.model_setup.specs.HeaderPackets.{ident_of}
use Rattle.model_setup.specs.SetupPacket.{SetupFields, setup_of}
use Rattle.model_line.specs.declared.row.TheConstants.{MOST_ENTRIES}
use Rattle.model_line.specs.declared.film.FilmFault.{FilmFault}
use Rattle.model_line.specs.LinkTests.{Headers, headers_of, too_many_packets, wrong_ident, ident_fault, too_many_channels, wrong_comment, wrong_setup, setup_fault, setup_fault_by}
use Rattle.model_line.specs.Acceptance.{header_tests, link_tests, first_fault, unless, counts_of, no_fields, no_setup, ident_by, setup_by, FilmLink, link_with, link_of, with_link, links_of, film_by, film_of}
use Rattle.model_film.specs.Links.{AreHeaders, IsLink}
use Rattle.model_film.specs.Laws.{LinksOfFilms}
use Rattle.model_film.proofs.IdentFacts.{ident_has}
use Rattle.model_film.proofs.HeaderFacts.{setup_has}

-- ---- no test of a link finds a fault

first_none : (test : Option FilmFault) (tests : List (Option FilmFault)) → first_fault (test ∷ tests) ≡ None → (test ≡ None) × (first_fault tests ≡ None)
first_none None tests e = (refl, e)
first_none (Some fault) tests e = cc

setup_right : (number : ℕ) (ident : IdentFields) (ident-packet setup-packet : List ℕ) (setup : Result SetupFields SetupFault) → ident_of ident-packet ≡ Ok ident → setup_of ident.channels setup-packet ≡ setup → setup_fault number setup ≡ None
    → AreHeaders ident (result_unwrap_or setup no_setup)
setup_right number ident ident-packet setup-packet (Ok setup) ident-is setup-is e =
    let blocks = ident_has ident-packet ident ident-is in
    let parts = setup_has ident.channels setup-packet setup setup-is in
    record {
      channels = blocks.channels;
      short = blocks.short;
      long = blocks.long;
      mappings = parts.mappings;
      modes = parts.modes;
    }
setup_right number ident ident-packet setup-packet (Err fault) ident-is setup-is e = cc

ident_right : (number : ℕ) (headers : Headers) (ident : Result IdentFields IdentCause) → ident_of headers.ident ≡ ident → ident_fault number ident ≡ None → setup_fault_by number headers.setup ident ≡ None
    → AreHeaders (result_unwrap_or ident no_fields) (result_unwrap_or (setup_of (result_unwrap_or ident no_fields).channels headers.setup) no_setup)
ident_right number headers (Ok ident) ident-is right setup-right =
    setup_right number ident headers.ident headers.setup (setup_of ident.channels headers.setup) ident-is refl setup-right
ident_right number headers (Err cause) ident-is right setup-right = cc

headers_right : (number : ℕ) (headers : Option Headers) → first_fault (header_tests number headers) ≡ None → AreHeaders (option_map_or ident_by headers no_fields) (option_map_or setup_by headers no_setup)
headers_right number None e = cc
headers_right number (Some headers) e =
    let found = Some headers in
    let ident = first_none (wrong_ident number found) (too_many_channels number found ∷ wrong_comment number found ∷ wrong_setup number found ∷ []) e in
    let channels = first_none (too_many_channels number found) (wrong_comment number found ∷ wrong_setup number found ∷ []) ident.1 in
    let comment = first_none (wrong_comment number found) (wrong_setup number found ∷ []) channels.1 in
    let setup = first_none (wrong_setup number found) [] comment.1 in
    ident_right number headers (ident_of headers.ident) refl ident.0 setup.0

-- ---- a link

unless_none : {A : Type 0} (fault : Option FilmFault) (value result : A) → unless fault value ≡ Ok result → (fault ≡ None) × (value ≡ result)
unless_none None value result e = (refl, grind (arith, e))
unless_none (Some fault) value result e = cc

link_right : (number left serial : ℕ) (stream : List PageRef) (items : List StreamItem) (link : FilmLink) → link_of number left serial stream items ≡ Ok link → IsLink link
unfolding link_of link_with
link_right number left serial stream items link e =
    let tests = header_tests number (headers_of items) in
    let right = unless_none (first_fault (link_tests number left items)) (link_with (counts_of serial stream items) items) link e in
    let headers = first_none (too_many_packets left items) tests right.0 in
    subst IsLink right.1 (headers_right number (headers_of items) headers.1)

-- ---- all links

both_right : (first : Result FilmLink FilmFault) (others : Result (List FilmLink) FilmFault) (links : List FilmLink) → ((link : FilmLink) → first ≡ Ok link → IsLink link) → ((rest : List FilmLink) → others ≡ Ok rest → All IsLink rest)
    → with_link first others ≡ Ok links → All IsLink links
both_right (Err fault) others links is are e = cc
both_right (Ok link) (Err fault) links is are e = cc
both_right (Ok link) (Ok rest) links is are e =
    let same : link ∷ rest ≡ links = grind (arith, e) in
    subst (All IsLink) same (All-cons IsLink link rest (is link refl) (are rest refl))

links_right : (bytes : List ℕ) (ps : List PageRef) (number left : ℕ) (parts : List LinkPages) (links : List FilmLink) → links_of bytes ps number left parts ≡ Ok links → All IsLink links
unfolding links_of
links_right bytes ps number left [] links e = let same : [] ≡ links = grind (arith, e) in subst (All IsLink) same (All-nil IsLink)
links_right bytes ps number left (part ∷ parts) links e =
    let stream = played_pages ps part in
    let items = stream_items bytes stream in
    both_right (link_of number left part.serial stream items) (links_of bytes ps (number + 1) (left - length items) parts) links
    (λ link is. link_right number left part.serial stream items link is)
    (λ rest are. links_right bytes ps (number + 1) (left - length items) parts rest are) e

film_right : (bytes : List ℕ) (ps : List PageRef) (parts : Result (List LinkPages) LinkFault) (links : List FilmLink) → film_by bytes ps parts ≡ Ok links → All IsLink links
film_right bytes ps (Ok parts) links e = links_right bytes ps 0 MOST_ENTRIES parts links e
film_right bytes ps (Err fault) links e = cc

pub links_of_films : LinksOfFilms
unfolding film_of
links_of_films = λ bytes links e. film_right bytes (pages bytes 0) (film_links bytes (pages bytes 0)) links e
