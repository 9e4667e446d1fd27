-- The made films are accepted: each of their links passes all tests, and is read as it was written.
use Rattle.std.proofs.Common.{◌≡◌, ℕ, ◌+◌, ◌-◌, ◌*◌, ◌<◌, ◌≤◌, List, [], ◌∷◌, length, map, Result, Ok, refl, sym, ap, subst, ◌∙◌, arith, le-ltb}
use Rattle.std.specs.List.{AllByRecursion, flat_map}
use Rattle.std.proofs.lemmas.List.{length-map}
use Rattle.std.proofs.lemmas.List.Elements.{recursion_from_All}
use Rattle.std.proofs.lemmas.Simd.{map-map}
use Rattle.model_ogg.specs.declared.page.PageRef.{PageRef}
use Rattle.model_ogg.specs.declared.link.LinkPages.{LinkPages}
use Rattle.model_ogg.specs.Pages.{pages}
use Rattle.model_ogg.specs.Streams.{first_part_len, stream_of}
use Rattle.model_ogg.specs.Entries.{StreamItem, stream_items}
use Rattle.model_ogg.specs.Links.{film_links, pages_in, played_pages}
use Rattle.model_ogg.specs.Writing.{fields_found}
use Rattle.model_ogg.proofs.StandingPages.{pages_are_pages}
use Rattle.model_ogg.proofs.WrittenPages.{pages_read_back_law}
use Rattle.model_line.specs.declared.row.TheConstants.{MOST_ENTRIES}
use Rattle.model_line.specs.declared.film.TheConstants.{MOST_CHANNELS}
use Rattle.model_line.specs.declared.film.LinkCounts.{LinkCounts}
use Rattle.model_line.specs.declared.film.FilmFault.{FilmFault}
use Rattle.model_line.specs.LinkTests.{headers_of}
use Rattle.model_line.specs.Acceptance.{FilmLink, link_with, link_of, with_link, links_of, film_by, film_of}
use Rattle.model_trial.specs.declared.numbers.TheConstants.{MADE_PACKETS}
use Rattle.model_trial.specs.MadeSetup.{made_setup}
use Rattle.model_trial.specs.MadeFilm.{MadeLink, made_links, ident_packet, DrawnLink, drawn_links, audio_pages, link_pages, made_pages, made_film}
use Rattle.model_trial.specs.FilmRead.{audio_entries, ident_read, link_read, links_read}
use Rattle.model_trial.specs.Laws.{HeadersAreAccepted}
use Rattle.model_trial.proofs.Films.{made_headers_are_accepted}
use Rattle.trial_film_laws.specs.Laws.{IsDrawn, MadeFilmsAreAccepted}
use Rattle.trial_film_laws.proofs.Lists.{all_weaker}
use Rattle.trial_film_laws.proofs.Drawn.{made_links_are_drawn}
use Rattle.trial_film_laws.proofs.Places.{made_pages_have_places}
use Rattle.trial_film_laws.proofs.Blocks.{drawn_packet_count}
use Rattle.trial_film_laws.proofs.Entries.{link_items, link_entries}
use Rattle.trial_film_laws.proofs.EntryCounts.{LosesAudio, made_links-lose_audio, item_count, counts_are}
use Rattle.trial_film_laws.proofs.Links.{Run, IsRun, pages_of, runs_of, BeginsVorbis, IsChained, chained, numbers_of, film_links-runs, pages_of_numbers}

-- ---- a link

-- what holds of the links of all made films
record IsUsual (link : MadeLink) : Type 0 where
  headers : HeadersAreAccepted link
  few : link.channels ≤ MOST_CHANNELS
  begins : BeginsVorbis link
  loses : LosesAudio link

abbrev HasPackets : DrawnLink → Type 0
HasPackets drawn = length drawn.packets ≡ MADE_PACKETS

begin_vorbis : (link : MadeLink) → BeginsVorbis link
unfolding ident_packet first_part_len
begin_vorbis link = refl

-- it passes all tests, and says what it is to say
link_of-drawn : (number left : ℕ) (drawn : DrawnLink) (stream : List PageRef) → IsUsual drawn.link → HasPackets drawn → length stream ≡ 2 + audio_pages → length (link_items drawn) ≤ left
    → link_of number left drawn.link.serial stream (link_items drawn) ≡ Ok (link_read drawn)
unfolding link_of link_with headers_of link_read
link_of-drawn number left drawn stream usual packets count fits =
    let few = le-ltb left (length (link_items drawn)) fits in
    let narrow = le-ltb MOST_CHANNELS drawn.link.channels usual.few in
    let h = usual.headers in
    let read : LinkCounts → Result FilmLink FilmFault = λ counts. Ok (record { counts = counts; ident = ident_read drawn.link; setup = made_setup drawn.link.channels; entries = audio_entries drawn }) in
    rw few (rw (h.ident) (rw narrow (rw (h.comment) (rw (h.setup) (ap read (counts_are drawn stream packets usual.loses count))))))

-- ---- the links of a film

-- what holds of a link's pages in a film that is accepted
record IsGood (bytes : List ℕ) (run : Run) : Type 0 where
  is : IsRun bytes run
  usual : IsUsual run.drawn.link
  packets : HasPackets run.drawn
  chained : IsChained bytes run

both_read : (one : Result FilmLink FilmFault) (others : Result (List FilmLink) FilmFault) (link : FilmLink) (links : List FilmLink) → one ≡ Ok link → others ≡ Ok links → with_link one others ≡ Ok (link ∷ links)
both_read one others link links is are = rw (is, are) refl

links_of-runs : (bytes : List ℕ) (ps : List PageRef) (number left first : ℕ) (runs : List Run) → map (pages_in ps) (numbers_of first runs) ≡ map pages_of runs → AllByRecursion (IsGood bytes) runs → (4 + MADE_PACKETS) * length runs ≤ left
    → links_of bytes ps number left (numbers_of first runs) ≡ Ok (map (λ run. link_read run.drawn) runs)
unfolding links_of numbers_of
links_of-runs bytes ps number left first [] places good fits = refl
links_of-runs bytes ps number left first (run ∷ runs) places good fits =
    let end = first + length run.pages in
    let link : LinkPages = record { first = first; end = end; serial = run.drawn.link.serial } in
    let rest = numbers_of end runs in
    let g = good.0 in
    let here : pages_in ps link ≡ run.pages = cc in
    let behind : map (pages_in ps) rest ≡ map pages_of runs = cc in
    let stream : played_pages ps link ≡ run.pages = ap (stream_of run.drawn.link.serial) here ∙ g.chained.stream in
    let items = link_entries run.drawn bytes run.pages g.is.stand g.is.says in
    let few = item_count run.drawn g.packets g.usual.loses in
    let one = λ (s : List PageRef) (x : List StreamItem). link_of number left run.drawn.link.serial s x in
    let others = λ (x : List StreamItem). links_of bytes ps (number + 1) (left - length x) rest in
    both_read (one (played_pages ps link) (stream_items bytes (played_pages ps link))) (others (stream_items bytes (played_pages ps link))) (link_read run.drawn) (map (λ run. link_read run.drawn) runs)
    (ap (λ (s : List PageRef). one s (stream_items bytes s)) stream ∙ ap (one run.pages) items ∙ link_of-drawn number left run.drawn run.pages g.usual g.packets g.chained.count (omega (arith, few, fits)))
    (ap (λ (s : List PageRef). others (stream_items bytes s)) stream ∙ ap others items ∙ links_of-runs bytes ps (number + 1) (left - length (link_items run.drawn)) end runs behind good.1 (omega (arith, few, fits)))

-- ---- films

all_usual : AllByRecursion IsUsual made_links
all_usual =
    let h = recursion_from_All HeadersAreAccepted made_links made_headers_are_accepted in (
      record { headers = h.0; few = omega arith; begins = begin_vorbis _; loses = made_links-lose_audio.0 },
      (
        record { headers = h.1.0; few = omega arith; begins = begin_vorbis _; loses = made_links-lose_audio.1.0 },
        (record { headers = h.1.1.0; few = omega arith; begins = begin_vorbis _; loses = made_links-lose_audio.1.1.0 }, tt),
      ),
    )

all_good : (bytes : List ℕ) (runs : List Run) → AllByRecursion (IsRun bytes) runs → AllByRecursion IsUsual (map (λ (run : Run). run.drawn.link) runs) → AllByRecursion HasPackets (map (λ (run : Run). run.drawn) runs) → AllByRecursion (IsGood bytes) runs
all_good bytes [] are usual has = tt
all_good bytes (run ∷ runs) are usual has = (record { is = are.0; usual = usual.0; packets = has.0; chained = chained bytes run usual.0.begins are.0 }, all_good bytes runs are.1 usual.1 has.1)

film_of-runs : (bytes : List ℕ) (ps : List PageRef) (runs : List Run) → pages bytes 0 ≡ ps → flat_map (λ (link : List PageRef). link) (map pages_of runs) ≡ ps → 0 < length runs → length runs ≤ 4 → AllByRecursion (IsGood bytes) runs
    → film_of bytes ≡ Ok (map (λ run. link_read run.drawn) runs)
unfolding film_of
film_of-runs bytes ps [] ps-is whole some few good = absurd (omega arith)
film_of-runs bytes ps (run ∷ runs) ps-is whole some few good =
    let each = all_weaker (IsGood bytes) (IsChained bytes) (λ run g. g.chained) (run ∷ runs) good in
    let links = film_links-runs bytes ps run runs whole each (omega (arith, few)) in
    let places = pages_of_numbers bytes ps run runs whole each (omega (arith, few)) in
    ap (λ (ps : List PageRef). film_by bytes ps (film_links bytes ps)) ps-is ∙ ap (film_by bytes ps) links ∙ links_of-runs bytes ps 0 MOST_ENTRIES 0 (run ∷ runs) places good (omega (arith, few))

film_is_read : (bytes : List ℕ) (links : List DrawnLink) → fields_found bytes ≡ flat_map link_pages links → map (λ (drawn : DrawnLink). drawn.link) links ≡ made_links → AllByRecursion HasPackets links → film_of bytes ≡ Ok (map link_read links)
film_is_read bytes links found made has =
    let ps = pages bytes 0 in
    let r = runs_of bytes ps links found (pages_are_pages bytes) in
    let made_runs : map (λ (run : Run). run.drawn.link) r.runs ≡ made_links = sym (map-map (λ (drawn : DrawnLink). drawn.link) (λ (run : Run). run.drawn) r.runs) ∙ ap (map (λ (drawn : DrawnLink). drawn.link)) r.drawn ∙ made in
    let count : length r.runs ≡ 3 = sym (length-map r.runs (λ (run : Run). run.drawn.link)) ∙ ap length made_runs in
    let good = all_good bytes r.runs r.each (subst (AllByRecursion IsUsual) (sym made_runs) all_usual) (subst (AllByRecursion HasPackets) (sym r.drawn) has) in
    film_of-runs bytes ps r.runs refl r.whole (omega (arith, count)) (omega (arith, count)) good
    ∙ ap (λ (x : List FilmLink). Ok x) (sym (map-map link_read (λ (run : Run). run.drawn) r.runs) ∙ ap (map link_read) r.drawn)

pub made_films_are_accepted : MadeFilmsAreAccepted
unfolding made_film made_pages links_read
made_films_are_accepted number =
    let links = drawn_links number in
    let are = made_links_are_drawn number in
    let found = pages_read_back_law (made_pages number) (made_pages_have_places number) in
    film_is_read (made_film number) links found are.made (all_weaker IsDrawn HasPackets drawn_packet_count links (recursion_from_All IsDrawn links are.drawn))
