-- A chain of links of which the pages say what drawn links have: where each link begins, which of its pages count, and its
-- numbers.
use Rattle.std.proofs.Common.{◌≡◌, ℕ, zero, suc, ◌+◌, ◌<◌, ◌≤◌, Bool, true, false, List, [], ◌∷◌, ◌++◌, length, map, Some, Ok, refl, sym, ap, subst, ◌∙◌, inl, inr, arith, eq-eqb, eqb-true, lt-ltb}
use Rattle.std.specs.Prelude.{◌==◌, nat_eq, take}
use Rattle.std.specs.Int.{bit_at}
use Rattle.std.specs.List.{AllByRecursion, flat_map, list_any, range_with_len, starts_with}
use Rattle.std.proofs.lemmas.Bool.{cases_Bool}
use Rattle.std.proofs.lemmas.List.{length-map}
use Rattle.std.proofs.lemmas.List.Elements.{All-from_recursion, All-nil}
use Rattle.std.proofs.lemmas.List.Folds.{list_any-append}
use Rattle.std.proofs.lemmas.List.FromFn.{length-map-range_with_len}
use Rattle.model_ogg.specs.declared.page.PageRef.{PageRef}
use Rattle.model_ogg.specs.declared.link.TheConstants.{MOST_LINKS}
use Rattle.model_ogg.specs.declared.link.LinkPages.{LinkPages}
use Rattle.model_ogg.specs.Pages.{IsPageOf}
use Rattle.model_ogg.specs.Streams.{is_first, is_last, through_last, stream_of, first_part_len, vorbis, begins_vorbis}
use Rattle.model_ogg.specs.Entries.{has_any}
use Rattle.model_ogg.specs.Links.{IsLink, AreLinks, IsSplit, IsFirst, IsNotFirst, played, all_numbered, film_links, pages_in}
use Rattle.model_ogg.specs.Writing.{PageFields, fields_of}
use Rattle.model_ogg.proofs.LinkLaws.{splits_law, numbers_law}
use Rattle.model_trial.specs.MadeFilm.{MadeLink, DrawnLink, ident_packet, comment_packet, setup_packet, packet_laces, page_of, audio_pages, is_last_page, audio_page, link_pages}
use Rattle.trial_film_laws.proofs.Lists.{halves, all_of_both, all_before_map, all_mapped, all_weaker, AllButLast, all_but_last_of_map, all_pass}

-- ---- the pages of a drawn link

through_all : (ps : List PageRef) → AllButLast (λ (p : PageRef). is_last p ≡ false) ps → through_last ps ≡ ps
unfolding through_last
through_all [] go_on = refl
through_all (p ∷ []) go_on = elim (cases_Bool (is_last p)) [ inl last ↦ rw last refl | inr other ↦ rw other refl ]
through_all (p ∷ q ∷ ps) go_on = rw (go_on.0) (ap (λ (l : List PageRef). p ∷ l) (through_all (q ∷ ps) go_on.1))

abbrev first_flag : PageFields → Bool
first_flag page = bit_at page.flags 1 == 1

abbrev last_flag : PageFields → Bool
last_flag page = bit_at page.flags 2 == 1

abbrev ident_page : DrawnLink → PageFields
ident_page drawn = page_of drawn.link 2 0 0 (ident_packet drawn.link ∷ [])

abbrev setup_page : DrawnLink → PageFields
setup_page drawn = page_of drawn.link 0 0 1 (comment_packet ∷ setup_packet drawn.link ∷ [])

-- those behind the first, where so many are audio pages
other_pages : DrawnLink → ℕ → List PageFields
other_pages drawn n = setup_page drawn ∷ map (audio_page drawn) (range_with_len 0 n)

link_pages-is : (drawn : DrawnLink) → link_pages drawn ≡ ident_page drawn ∷ other_pages drawn audio_pages
unfolding link_pages other_pages
link_pages-is drawn = refl

audio-first : (drawn : DrawnLink) (page : ℕ) → first_flag (audio_page drawn page) ≡ false
unfolding audio_page
audio-first drawn page = elim (cases_Bool (is_last_page page)) [ inl last ↦ rw last refl | inr other ↦ rw other refl ]

audio-last : (drawn : DrawnLink) (page : ℕ) → page + 1 < audio_pages → last_flag (audio_page drawn page) ≡ false
unfolding audio_page
audio-last drawn page before = elim (cases_Bool (is_last_page page)) [ inl last ↦ absurd (omega (arith, eqb-true (page + 1) audio_pages last)) | inr other ↦ rw other refl ]

audio-serial : (drawn : DrawnLink) (page : ℕ) → (audio_page drawn page).serial ≡ drawn.link.serial
unfolding audio_page
audio-serial drawn page = refl

others_go_on : (drawn : DrawnLink) (n : ℕ) → AllByRecursion (λ page. first_flag page ≡ false) (other_pages drawn n)
unfolding other_pages
others_go_on drawn n = (refl, all_mapped (λ page. first_flag page ≡ false) (audio_page drawn) (audio-first drawn) (range_with_len 0 n))

others_serial : (drawn : DrawnLink) (n : ℕ) → AllByRecursion (λ (page : PageFields). page.serial ≡ drawn.link.serial) (other_pages drawn n)
unfolding other_pages
others_serial drawn n = (refl, all_mapped (λ (page : PageFields). page.serial ≡ drawn.link.serial) (audio_page drawn) (audio-serial drawn) (range_with_len 0 n))

audio_but_last : (drawn : DrawnLink) (a n : ℕ) → a + n ≡ audio_pages → AllButLast (λ page. last_flag page ≡ false) (map (audio_page drawn) (range_with_len a n))
audio_but_last drawn a zero e = tt
audio_but_last drawn a (suc zero) e = tt
audio_but_last drawn a (suc (suc n)) e = (audio-last drawn a (omega arith), audio_but_last drawn (a + 1) (suc n) (omega arith))

behind_setup : (drawn : DrawnLink) (page : PageFields) (pages : List PageFields) → last_flag page ≡ false → AllButLast (λ page. last_flag page ≡ false) pages → AllButLast (λ page. last_flag page ≡ false) (page ∷ pages)
behind_setup drawn page [] other all = tt
behind_setup drawn page (next ∷ pages) other all = (other, all)

others_but_last : (drawn : DrawnLink) (n : ℕ) → n ≡ audio_pages → AllButLast (λ page. last_flag page ≡ false) (other_pages drawn n)
unfolding other_pages
others_but_last drawn n e = behind_setup drawn (setup_page drawn) (map (audio_page drawn) (range_with_len 0 n)) refl (audio_but_last drawn 0 n (omega (arith, e)))

others_any : (drawn : DrawnLink) (n : ℕ) → has_any (other_pages drawn n) ≡ true
unfolding other_pages
others_any drawn n = refl

others_length : (drawn : DrawnLink) (n : ℕ) → length (other_pages drawn n) ≡ 1 + n
unfolding other_pages
others_length drawn n = omega (arith, length-map-range_with_len (audio_page drawn) 0 n)

-- ---- links

-- a drawn link and its pages
pub record Run : Type 0 where
  pub drawn : DrawnLink
  pub pages : List PageRef

-- the pages say what the link has, and stand in the bytes
pub record IsRun (bytes : List ℕ) (run : Run) : Type 0 where
  pub says : map (fields_of bytes) run.pages ≡ link_pages run.drawn
  pub stand : AllByRecursion (IsPageOf bytes) run.pages

abbrev pub pages_of : Run → List PageRef
pages_of run = run.pages

-- the pages of bytes as the pages of drawn links
pub record AreRuns (bytes : List ℕ) (ps : List PageRef) (links : List DrawnLink) : Type 0 where
  pub runs : List Run
  pub drawn : map (λ (run : Run). run.drawn) runs ≡ links
  pub whole : flat_map (λ (link : List PageRef). link) (map pages_of runs) ≡ ps
  pub each : AllByRecursion (IsRun bytes) runs

pub runs_of : (bytes : List ℕ) (ps : List PageRef) (links : List DrawnLink) → map (fields_of bytes) ps ≡ flat_map link_pages links → AllByRecursion (IsPageOf bytes) ps → AreRuns bytes ps links
runs_of bytes [] [] e stand = record { runs = []; drawn = refl; whole = refl; each = tt }
runs_of bytes (p ∷ ps) [] e stand = absurd (cc)
runs_of bytes ps (link ∷ links) e stand =
    let h = halves (fields_of bytes) ps (link_pages link) (flat_map link_pages links) e in
    let s = all_of_both (IsPageOf bytes) h.first h.rest (subst (AllByRecursion (IsPageOf bytes)) (sym h.whole) stand) in
    let more = runs_of bytes h.rest links h.back_is s.1 in
    record {
      runs = record { drawn = link; pages = h.first } ∷ more.runs;
      drawn = ap (λ (l : List DrawnLink). link ∷ l) more.drawn;
      whole = ap (λ (l : List PageRef). h.first ++ l) more.whole ∙ h.whole;
      each = (record { says = h.front_is; stand = s.0 }, more.each);
    }

-- the first packet part of the link's first page begins as an identification header does
abbrev pub BeginsVorbis : MadeLink → Type 0
BeginsVorbis link = starts_with nat_eq (take (first_part_len (packet_laces (ident_packet link) ++ [])) (ident_packet link ++ [])) (1 ∷ vorbis) ≡ true

-- the pages of a link of a chain, with its Vorbis stream
pub record IsChained (bytes : List ℕ) (run : Run) : Type 0 where
  pub link : (followed : Bool) → IsLink followed run.pages
  pub played : played bytes run.pages ≡ Some run.drawn.link.serial
  pub stream : stream_of run.drawn.link.serial run.pages ≡ run.pages
  pub starts : list_any is_first run.pages ≡ true
  pub count : length run.pages ≡ 2 + audio_pages

played_of_first : (bytes : List ℕ) (p q : PageRef) (ps : List PageRef) → is_first p ≡ true → is_first q ≡ false → begins_vorbis bytes p ≡ true → played bytes (p ∷ q ∷ ps) ≡ Some p.serial
unfolding played
played_of_first bytes p q ps first other begins = rw first (rw other (rw begins refl))

-- by what the first page and the others say
chained_by : (bytes : List ℕ) (drawn : DrawnLink) (p : PageRef) (ps : List PageRef) → BeginsVorbis drawn.link → fields_of bytes p ≡ ident_page drawn → map (fields_of bytes) ps ≡ other_pages drawn audio_pages
    → IsChained bytes (record { drawn = drawn; pages = p ∷ ps })
chained_by bytes drawn p [] begins front others = (let some : false ≡ true = ap has_any others ∙ others_any drawn audio_pages in absurd (cc))
chained_by bytes drawn p (q ∷ ps) begins front others =
    let n = audio_pages in
    let fields = fields_of bytes in
    let same = λ (page : PageFields). page.serial ≡ drawn.link.serial in
    let ours = λ (page : PageRef). page.serial == drawn.link.serial in
    let first : is_first p ≡ true = ap first_flag front in
    let begin_last : is_last p ≡ false = ap last_flag front in
    let vorbis_is : begins_vorbis bytes p ≡ true = ap (λ (page : PageFields). starts_with nat_eq (take (first_part_len page.laces) page.body) (1 ∷ vorbis)) front ∙ begins in
    let serial : p.serial ≡ drawn.link.serial = ap (λ (page : PageFields). page.serial) front in
    let go_on = all_before_map (λ page. first_flag page ≡ false) fields (q ∷ ps) (subst (AllByRecursion (λ page. first_flag page ≡ false)) (sym others) (others_go_on drawn n)) in
    let serials = all_before_map same fields (q ∷ ps) (subst (AllByRecursion same) (sym others) (others_serial drawn n)) in
    let not_last = all_but_last_of_map (λ page. last_flag page ≡ false) fields (q ∷ ps) (subst (AllButLast (λ page. last_flag page ≡ false)) (sym others) (others_but_last drawn n refl)) in
    let passes = all_weaker (λ (page : PageRef). page.serial ≡ drawn.link.serial) (λ page. ours page ≡ true) (λ page is. eq-eqb page.serial drawn.link.serial is) (p ∷ q ∷ ps) (serial, serials) in
    record {
      link = λ followed. record {
        first = p;
        firsts = [];
        others = q ∷ ps;
        split = refl;
        begins = first;
        begin = All-nil IsFirst;
        go_on = All-from_recursion IsNotFirst (q ∷ ps) go_on;
        apart = λ _. refl;
      };
      played = played_of_first bytes p q ps first go_on.0 vorbis_is ∙ ap (λ (n : ℕ). Some n) serial;
      stream = ap through_last (all_pass ours (p ∷ q ∷ ps) passes) ∙ through_all (p ∷ q ∷ ps) (begin_last, not_last);
      starts = rw first refl;
      count = omega (arith, length-map (q ∷ ps) fields, ap length others, others_length drawn n);
    }

chained_pages : (bytes : List ℕ) (drawn : DrawnLink) (ps : List PageRef) → BeginsVorbis drawn.link → map (fields_of bytes) ps ≡ ident_page drawn ∷ other_pages drawn audio_pages → IsChained bytes (record { drawn = drawn; pages = ps })
chained_pages bytes drawn [] begins is = absurd (cc)
chained_pages bytes drawn (p ∷ ps) begins is = chained_by bytes drawn p ps begins (cc) (cc)

pub chained : (bytes : List ℕ) (run : Run) → BeginsVorbis run.drawn.link → IsRun bytes run → IsChained bytes run
chained bytes run begins is = chained_pages bytes run.drawn run.pages begins (is.says ∙ link_pages-is run.drawn)

-- ---- the chain

are_links : (bytes : List ℕ) (runs : List Run) → AllByRecursion (IsChained bytes) runs → AreLinks (map pages_of runs)
unfolding AreLinks
are_links bytes [] each = tt
are_links bytes (run ∷ runs) each = (each.0.link (has_any (map pages_of runs)), are_links bytes runs each.1)

-- the numbers of links, the first of which begins at a page of this number
unfoldable pub numbers_of : ℕ → List Run → List LinkPages
numbers_of first [] = []
numbers_of first (run ∷ runs) = record { first = first; end = first + length run.pages; serial = run.drawn.link.serial } ∷ numbers_of (first + length run.pages) runs

all_numbered-runs : (bytes : List ℕ) (number first : ℕ) (runs : List Run) → number + length runs ≤ MOST_LINKS → AllByRecursion (IsChained bytes) runs → all_numbered bytes number first (map pages_of runs) ≡ Ok (numbers_of first runs)
unfolding all_numbered numbers_of
all_numbered-runs bytes number first [] few each = refl
all_numbered-runs bytes number first (run ∷ runs) few each =
    let here = lt-ltb number MOST_LINKS (omega (arith, few)) in
    rw here (rw (each.0.played) (rw (all_numbered-runs bytes (number + 1) (first + length run.pages) runs (omega (arith, few)) each.1) refl))

any_of_first : (bytes : List ℕ) (run : Run) (rest : List PageRef) → IsChained bytes run → list_any is_first (run.pages ++ rest) ≡ true
any_of_first bytes run rest is = list_any-append is_first run.pages rest ∙ rw (is.starts) refl

-- the links of a chain that begins with a link
pub film_links-runs : (bytes : List ℕ) (ps : List PageRef) (run : Run) (runs : List Run) → flat_map (λ (link : List PageRef). link) (map pages_of (run ∷ runs)) ≡ ps → AllByRecursion (IsChained bytes) (run ∷ runs) → length (run ∷ runs) ≤ MOST_LINKS
    → film_links bytes ps ≡ Ok (numbers_of 0 (run ∷ runs))
unfolding film_links
film_links-runs bytes ps run runs whole each few =
    let links = map pages_of (run ∷ runs) in
    let is_split : IsSplit ps [] links = record { whole = whole; none = All-nil IsNotFirst; each = are_links bytes (run ∷ runs) each } in
    let parts = (splits_law ps).1 [] links is_split in
    let any : list_any is_first ps ≡ true = ap (list_any is_first) (sym whole) ∙ any_of_first bytes run (flat_map (λ (link : List PageRef). link) (map pages_of runs)) each.0 in
    rw any (rw (sym parts.0, sym parts.1) (all_numbered-runs bytes 0 0 (run ∷ runs) (omega (arith, few)) each))

-- and their pages and serial numbers by these
pub pages_of_numbers : (bytes : List ℕ) (ps : List PageRef) (run : Run) (runs : List Run) → flat_map (λ (link : List PageRef). link) (map pages_of (run ∷ runs)) ≡ ps → AllByRecursion (IsChained bytes) (run ∷ runs) → length (run ∷ runs) ≤ MOST_LINKS
    → map (pages_in ps) (numbers_of 0 (run ∷ runs)) ≡ map pages_of (run ∷ runs)
pages_of_numbers bytes ps run runs whole each few =
    let links = map pages_of (run ∷ runs) in
    let is_split : IsSplit ps [] links = record { whole = whole; none = All-nil IsNotFirst; each = are_links bytes (run ∷ runs) each } in
    let numbers = numbers_law bytes ps (numbers_of 0 (run ∷ runs)) (film_links-runs bytes ps run runs whole each few) in
    numbers.pages ∙ sym ((splits_law ps).1 [] links is_split).1
