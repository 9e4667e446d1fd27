-- The fields of the pages of made films have places, and each page has few lacing values.
use Rattle.std.proofs.Common.{◌≡◌, ℕ, zero, suc, ◌+◌, ◌-◌, ◌*◌, ◌/◌, ◌%◌, ◌^◌, ◌<◌, ◌≤◌, List, [], ◌∷◌, length, take, drop, map, replicate, sum, Option, Some, None, refl, sym, ◌∙◌, subst, arith, lit<, lit≤, length-append}
use Rattle.std.specs.Prelude.{◌==◌, nat_le, if◌then◌else◌}
use Rattle.std.specs.List.{All, AllByRecursion, flat_map, range_with_len}
use Rattle.std.specs.Option.{option_map_or}
use lib.Count.{count_leading_zeros}
use Rattle.std.proofs.lemmas.Bool.{cond_both}
use Rattle.std.proofs.lemmas.List.{length-replicate, length-take}
use Rattle.std.proofs.lemmas.List.Sums.{sum_by-append, sum_by-cons}
use Rattle.std.proofs.lemmas.List.Elements.{All-from_recursion, recursion_from_All, All-take, All-drop, All-map, All-cons}
use Rattle.model_ogg.specs.Writing.{PageFields, HasPlaces}
use Rattle.model_synthesis.specs.Overlaps.{overlap_len}
use Rattle.model_trial.specs.declared.numbers.TheConstants.{MADE_SHORT, MADE_LONG, PACKETS_ON_PAGE}
use Rattle.model_trial.specs.MadeFilm.{MadeLink, DrawnLink, made_links, ident_packet, comment_packet, setup_packet, drawn_links, packet_laces, page_of, block_size, frames_between, audio_pages, is_last_page, granule_at, sequence_at, packets_at, audio_page, link_pages, made_pages}
use Rattle.trial_film_laws.specs.Laws.{IsDrawnPacket, IsDrawn, MadePagesHavePlaces}
use Rattle.trial_film_laws.proofs.Lists.{All-flat_map, all_of_range, all_before_map, both_by_recursion}
use Rattle.trial_film_laws.proofs.Drawn.{made_links_are_drawn}

-- ---- lacing values

sum-replicate : (n a : ℕ) → sum (replicate n a) ≡ n * a
sum-replicate zero a = omega arith
sum-replicate (suc n) a = sum_by-cons (λ x. x) a (replicate n a) ∙ omega (arith, sum-replicate n a)

-- the lacing values of a packet say how long it is
pub sum_of_laces : (packet : List ℕ) → sum (packet_laces packet) ≡ length packet
sum_of_laces packet =
    let n = length packet in
    omega (arith, sum_by-append (λ x. x) (replicate (n / 255) 255) (n % 255 ∷ []), sum-replicate (n / 255) 255, sum_by-cons (λ x. x) (n % 255) [])

pub sum_of_all_laces : (packets : List (List ℕ)) → sum (flat_map packet_laces packets) ≡ length (flat_map (λ (packet : List ℕ). packet) packets)
sum_of_all_laces [] = refl
sum_of_all_laces (packet ∷ packets) =
    omega (arith, sum_by-append (λ x. x) (packet_laces packet) (flat_map packet_laces packets), sum_of_laces packet, sum_of_all_laces packets, length-append packet (flat_map (λ (p : List ℕ). p) packets))

-- a packet that is shorter than 255 has one lacing value
pub one_lace_each : (packets : List (List ℕ)) → AllByRecursion (λ (packet : List ℕ). length packet < 255) packets → length (flat_map packet_laces packets) ≡ length packets
one_lace_each [] short = refl
one_lace_each (packet ∷ packets) short =
    let n = length packet in
    let none : n / 255 ≡ 0 = omega (arith, short.0) in
    omega (arith, none, length-append (packet_laces packet) (flat_map packet_laces packets), length-append (replicate (n / 255) 255) (n % 255 ∷ []), length-replicate {A = ℕ} (n / 255) 255, one_lace_each packets short.1)

-- ---- granule positions and sequence numbers

block_size_below : (mode : ℕ) → block_size mode ≤ 256
block_size_below mode = cond_both (mode == 0) MADE_SHORT MADE_LONG (λ n. n ≤ 256) (λ _. lit≤ tt) (λ _. lit≤ tt)

overlap_small : (a b : ℕ) → a ≤ 256 → b ≤ 256 → overlap_len a b ≤ 128
overlap_small a b h k = omega arith

pub frames_between_small : (modes : List ℕ) → frames_between modes ≤ 128 * length modes
unfolding frames_between
frames_between_small [] = lit≤ tt
frames_between_small (a ∷ []) = lit≤ tt
frames_between_small (a ∷ b ∷ modes) =
    omega (arith, overlap_small (block_size a) (block_size b) (block_size_below a) (block_size_below b), frames_between_small (b ∷ modes))

less : (frames most cut : ℕ) → frames ≤ most → frames - cut ≤ most
less frames most cut h = omega arith

pub granule_at_small : (drawn : DrawnLink) (page : ℕ) → granule_at drawn page ≤ 128 * length drawn.modes
unfolding granule_at
granule_at_small drawn page =
    let front = take (PACKETS_ON_PAGE * (page + 1)) drawn.modes in
    less (frames_between front) (128 * length drawn.modes) (if is_last_page page then drawn.link.cut else 0)
    (omega (arith, frames_between_small front, length-take (PACKETS_ON_PAGE * (page + 1)) drawn.modes))

one_at_most : (lost : Option ℕ) (page : ℕ) → option_map_or (λ l. if nat_le l page then 1 else 0) lost 0 ≤ 1
one_at_most None page = lit≤ tt
one_at_most (Some l) page = cond_both (nat_le l page) 1 0 (λ n. n ≤ 1) (λ _. lit≤ tt) (λ _. lit≤ tt)

pub sequence_at_small : (link : MadeLink) (page : ℕ) → sequence_at link page ≤ 3 + page
unfolding sequence_at
sequence_at_small link page = omega (arith, one_at_most link.lost_before page)

-- ---- pages

-- the serial number of a link has a place, and its two pages of headers have few lacing values
pub record HasHeaderPages (link : MadeLink) : Type 0 where
  pub serial : link.serial < 2 ^ 32
  pub ident : length (flat_map packet_laces (ident_packet link ∷ [])) ≤ 255
  pub setup : length (flat_map packet_laces (comment_packet ∷ setup_packet link ∷ [])) ≤ 255

header_pages : AllByRecursion HasHeaderPages made_links
unfolding count_leading_zeros ident_packet comment_packet setup_packet
header_pages =
    (record { serial = lit< tt; ident = lit≤ tt; setup = lit≤ tt }, (record { serial = lit< tt; ident = lit≤ tt; setup = lit≤ tt }, (record { serial = lit< tt; ident = lit≤ tt; setup = lit≤ tt }, tt)))

page_has_places : (link : MadeLink) (flags granule sequence : ℕ) (packets : List (List ℕ)) → link.serial < 2 ^ 32 → granule < 2 ^ 63 → sequence < 2 ^ 32 → HasPlaces (page_of link flags granule sequence packets)
page_has_places link flags granule sequence packets serial g s = record { granule = g; serial = serial; sequence = s; body = sum_of_all_laces packets }

audio_page_has_places : (drawn : DrawnLink) → drawn.link.serial < 2 ^ 32 → length drawn.modes ≤ 1300 → (page : ℕ) → page < 1000 → HasPlaces (audio_page drawn page)
unfolding audio_page
audio_page_has_places drawn serial few page low =
    page_has_places drawn.link (if is_last_page page then 4 else 0) (granule_at drawn page) (sequence_at drawn.link page) (packets_at drawn page) serial
    (omega (arith, granule_at_small drawn page)) (omega (arith, sequence_at_small drawn.link page))

pub packets_on_page : (drawn : DrawnLink) (page : ℕ) → length (packets_at drawn page) ≤ PACKETS_ON_PAGE
packets_on_page drawn page = omega (arith, length-take PACKETS_ON_PAGE (drop (PACKETS_ON_PAGE * page) drawn.packets))

shorter : (packets : List (List ℕ)) → AllByRecursion IsDrawnPacket packets → AllByRecursion (λ (packet : List ℕ). length packet < 255) packets
shorter [] are = tt
shorter (packet ∷ packets) are = (omega (arith, are.0.most), shorter packets are.1)

-- the packets of an audio page are some of the link's
pub packets_at_drawn : (drawn : DrawnLink) → IsDrawn drawn → (page : ℕ) → All IsDrawnPacket (packets_at drawn page)
packets_at_drawn drawn is page =
    All-take IsDrawnPacket PACKETS_ON_PAGE (drop (PACKETS_ON_PAGE * page) drawn.packets) (All-drop IsDrawnPacket (PACKETS_ON_PAGE * page) drawn.packets is.packets)

pub laces_at : (drawn : DrawnLink) → IsDrawn drawn → (page : ℕ) → length (flat_map packet_laces (packets_at drawn page)) ≡ length (packets_at drawn page)
laces_at drawn is page =
    one_lace_each (packets_at drawn page) (shorter (packets_at drawn page) (recursion_from_All IsDrawnPacket (packets_at drawn page) (packets_at_drawn drawn is page)))

pub few_laces_at : (drawn : DrawnLink) → IsDrawn drawn → (page : ℕ) → length (flat_map packet_laces (packets_at drawn page)) ≤ 255
few_laces_at drawn is page = omega (arith, laces_at drawn is page, packets_on_page drawn page)

-- ---- the pages of a link

-- a page whose fields have places, with as many lacing values as a page may have
pub record IsMadePage (page : PageFields) : Type 0 where
  pub places : HasPlaces page
  pub few : length page.laces ≤ 255

is_audio_page : (drawn : DrawnLink) → drawn.link.serial < 2 ^ 32 → IsDrawn drawn → (page : ℕ) → page < 1000 → IsMadePage (audio_page drawn page)
unfolding audio_page
is_audio_page drawn serial is page low = record {
  places = audio_page_has_places drawn serial (omega (arith, is.count)) page low;
  few = few_laces_at drawn is page;
}

audio_pages_made : (drawn : DrawnLink) → drawn.link.serial < 2 ^ 32 → IsDrawn drawn → (n : ℕ) → n ≤ 1000 → All IsMadePage (map (audio_page drawn) (range_with_len 0 n))
audio_pages_made drawn serial is n few =
    let P = λ (page : ℕ). IsMadePage (audio_page drawn page) in
    All-map IsMadePage (audio_page drawn) (range_with_len 0 n) (All-from_recursion P (range_with_len 0 n) (all_of_range P 0 n (λ page low. is_audio_page drawn serial is page (omega arith))))

pub link_pages_made : (drawn : DrawnLink) → HasHeaderPages drawn.link → IsDrawn drawn → All IsMadePage (link_pages drawn)
unfolding link_pages
link_pages_made drawn headers is =
    let link = drawn.link in
    let audio = map (audio_page drawn) (range_with_len 0 audio_pages) in
    let second = page_of link 0 0 1 (comment_packet ∷ setup_packet link ∷ []) in
    let of_ident = page_has_places link 2 0 0 (ident_packet link ∷ []) headers.serial (lit< tt) (lit< tt) in
    let of_setup = page_has_places link 0 0 1 (comment_packet ∷ setup_packet link ∷ []) headers.serial (lit< tt) (lit< tt) in
    All-cons IsMadePage (page_of link 2 0 0 (ident_packet link ∷ [])) (second ∷ audio) (record { places = of_ident; few = headers.ident })
    (All-cons IsMadePage second audio (record { places = of_setup; few = headers.setup }) (audio_pages_made drawn headers.serial is audio_pages (lit≤ tt)))

-- ---- the pages of a film

-- the links that are drawn, each with what holds of its headers
pub headers_drawn : (number : ℕ) → AllByRecursion (λ (drawn : DrawnLink). HasHeaderPages drawn.link) (drawn_links number)
headers_drawn number =
    all_before_map HasHeaderPages (λ (drawn : DrawnLink). drawn.link) (drawn_links number) (subst (AllByRecursion HasHeaderPages) (sym (made_links_are_drawn number).made) header_pages)

pub made_pages_made : (number : ℕ) → All IsMadePage (made_pages number)
unfolding made_pages
made_pages_made number =
    All-flat_map IsMadePage link_pages (drawn_links number)
    (both_by_recursion (λ (drawn : DrawnLink). HasHeaderPages drawn.link) IsDrawn (λ (drawn : DrawnLink). All IsMadePage (link_pages drawn)) link_pages_made (drawn_links number) (headers_drawn number)
    (recursion_from_All IsDrawn (drawn_links number) (made_links_are_drawn number).drawn))

pub made_pages_have_places : MadePagesHavePlaces
made_pages_have_places number k d h = (made_pages_made number k d h).places

pub few_laces : (number : ℕ) → All (λ (page : PageFields). length page.laces ≤ 255) (made_pages number)
few_laces number k d h = (made_pages_made number k d h).few
