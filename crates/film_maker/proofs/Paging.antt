-- Pages of packets, and how many frames they give.
use Rattle.std.proofs.Common.{◌≡◌, ℕ, ◌+◌, ◌*◌, ◌/◌, ◌%◌, ◌<◌, ◌≤◌, List, [], ◌∷◌, ◌++◌, length, map, take, drop, replicate, length-take, ◌^◌, sum, refl, sym, ap, ◌∙◌, arith, length-append, lit≤, cond, true, false, ◌==◌}
use Rattle.std.specs.List.{All, flat_map, range_with_len}
use Rattle.std.proofs.lemmas.List.{flat_map_more, length-replicate}
use Rattle.std.proofs.lemmas.List.Elements.{All-head, All-tail, All-take, All-drop}
use Rattle.std.proofs.lemmas.List.FromFn.{map-range_with_len_more}
use Rattle.model_ogg.specs.Writing.{PageFields, written_page, written_pages}
use Rattle.std.proofs.lemmas.List.Sums.{sum_by-append}
use Rattle.std.proofs.lemmas.List.Folds.{sum_by-replicate}
use Rattle.model_trial.specs.declared.numbers.TheConstants.{MADE_SHORT, MADE_LONG, MADE_PACKETS}
use Rattle.model_trial.specs.MadeFilm.{DrawnLink, block_size, frames_between, packet_laces, packets_at, audio_page}
use Rattle.film_maker.specs.Drawn.{IsShort}
use Rattle.film_maker.specs.declared.pages.PageFront.{PageFront}
use Rattle.film_maker.specs.Pages.{packet_page, audio_front, pages_of_audio}

half_block : (mode : ℕ) → block_size mode / 4 ≤ 64
half_block mode = elim (mode == 0) as (λ b. cond b MADE_SHORT MADE_LONG / 4 ≤ 64) [ true ↦ lit≤ tt | false ↦ lit≤ tt ]

-- no two blocks give more than 128 frames
pub frames_between-le : (modes : List ℕ) → frames_between modes ≤ 128 * length modes
unfolding frames_between
frames_between-le [] = omega arith
frames_between-le (a ∷ []) = omega arith
frames_between-le (a ∷ b ∷ modes) = omega (arith, frames_between-le (b ∷ modes), half_block a, half_block b)

-- lacing values say how long their packets are together
pub sum_of_laces : (packets : List (List ℕ)) → sum (flat_map packet_laces packets) ≡ length (flat_map (λ (packet : List ℕ). packet) packets)
sum_of_laces [] = refl
sum_of_laces (packet ∷ packets) =
    omega (arith, sum_by-append (λ x. x) (packet_laces packet) (flat_map packet_laces packets), sum_by-append (λ x. x) (replicate (length packet / 255) 255) (length packet % 255 ∷ []), sum_by-replicate (λ x. x) (length packet / 255) 255, length-append packet (flat_map (λ (packet : List ℕ). packet) packets), sum_of_laces packets)

-- and the frames of a front of a link's blocks have a place in a granule position
pub frames-lt : (frames n : ℕ) (modes : List ℕ) → frames ≡ frames_between (take n modes) → length modes ≡ MADE_PACKETS → frames < 2 ^ 63
frames-lt frames n modes is count = omega (arith, frames_between-le (take n modes), length-take n modes)

-- one lacing value for each short packet
laces_of_short : (packets : List (List ℕ)) → All IsShort packets → length (flat_map packet_laces packets) ≤ length packets
laces_of_short [] short = omega arith
laces_of_short (packet ∷ packets) short =
    let one : length packet < 255 = All-head IsShort packet packets short in
    omega (arith, length-append (packet_laces packet) (flat_map packet_laces packets), length-append (replicate (length packet / 255) 255) (length packet % 255 ∷ []), length-replicate {A = ℕ} (length packet / 255) 255, one, laces_of_short packets (All-tail IsShort packet packets short))

pub laces_on_page : (n first : ℕ) (packets : List (List ℕ)) → n ≡ 10 → All IsShort packets → length (flat_map packet_laces (take n (drop first packets))) ≤ 255
laces_on_page n first packets ten short =
    omega (arith, laces_of_short (take n (drop first packets)) (All-take IsShort n (drop first packets) (All-drop IsShort first packets short)), length-take n (drop first packets))

-- an audio page, by what stands in front of its packets
audio_page_is : (drawn : DrawnLink) (page : ℕ) → packet_page (audio_front drawn page) (packets_at drawn page) ≡ audio_page drawn page
unfolding audio_page
audio_page_is drawn page = refl

pub page_written : (drawn : DrawnLink) (page n : ℕ) (front : PageFront) (packets : List (List ℕ)) (old : List ℕ) → n ≡ 10 → front ≡ audio_front drawn page → packets ≡ drawn.packets
    → old ++ written_page (packet_page front (take n (drop (10 * page) packets))) ≡ old ++ written_page (audio_page drawn page)
page_written drawn page n front packets old ten front_is are =
    ap (λ (ps : List (List ℕ)). old ++ written_page (packet_page front (take n (drop (10 * page) ps)))) are
    ∙ ap (λ f. old ++ written_page (packet_page f (take n (drop (10 * page) drawn.packets)))) front_is
    ∙ ap (λ k. old ++ written_page (packet_page (audio_front drawn page) (take k (drop (10 * page) drawn.packets)))) ten
    ∙ ap (λ (p : PageFields). old ++ written_page p) (audio_page_is drawn page)

-- one page more
pub one_page : (drawn : DrawnLink) (before after front : List ℕ) (i : ℕ) → before ≡ front ++ written_pages (map (audio_page drawn) (range_with_len 0 i)) → after ≡ before ++ written_page (audio_page drawn i)
    → after ≡ front ++ written_pages (map (audio_page drawn) (range_with_len 0 (i + 1)))
one_page drawn before after front i so_far now =
    let ps = map (audio_page drawn) (range_with_len 0 i) in
    let p = audio_page drawn i in
    now ∙ ap (λ (bs : List ℕ). bs ++ written_page p) so_far
    ∙ flat_map_more written_page front ps p
    ∙ ap (λ (qs : List PageFields). front ++ written_pages qs) (sym (map-range_with_len_more (audio_page drawn) 0 i i (omega arith)))

pub all_pages : (drawn : DrawnLink) (front : List ℕ) (i : ℕ) → i ≡ 130 → front ++ written_pages (map (audio_page drawn) (range_with_len 0 i)) ≡ front ++ written_pages (pages_of_audio drawn)
all_pages drawn front i is = ap (λ k. front ++ written_pages (map (audio_page drawn) (range_with_len 0 k))) is
