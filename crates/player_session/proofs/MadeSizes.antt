-- Made films and scripts are short, so that they can be opened and read.
use Rattle.std.proofs.Common.{◌≡◌, ℕ, zero, suc, ◌+◌, ◌*◌, ◌/◌, ◌%◌, ◌^◌, ◌<◌, ◌≤◌, Bool, true, false, List, [], ◌∷◌, ◌++◌, length, map, take, drop, replicate, refl, ap, arith, lit<, lit≤, length-append}
use Rattle.std.specs.Prelude.{nat_lt, ◌==◌, if◌then◌else◌}
use Rattle.std.specs.List.{AllByRecursion, flat_map, range_with_len}
use Rattle.std.specs.Fmt.{decimal}
use lib.Count.{count_leading_zeros}
use Rattle.std.proofs.lemmas.List.{length-map, length-replicate}
use Rattle.std.proofs.lemmas.List.Sums.{sum_by-le}
use Rattle.std.proofs.lemmas.List.Concat.{length-flat_map}
use Rattle.std.proofs.lemmas.List.Elements.{All-from_recursion}
use Rattle.std.proofs.lemmas.Fmt.{length-decimal-le}
use Rattle.rand_pcg.specs.Lcg.{Lcg}
use Rattle.model_ogg.specs.Writing.{PageFields, written_page, written_pages}
use Rattle.model_script.specs.declared.command.Command.{Command}
use Rattle.model_script.specs.declared.command.Command.TheVariants as commands
use Rattle.model_script.specs.declared.command.Line.{Line}
use Rattle.model_script.specs.declared.command.Line.TheVariants as lines
use Rattle.model_trial.specs.declared.numbers.TheConstants.{MADE_LANES, MADE_COMMANDS, MADE_PACKETS}
use Rattle.model_trial.specs.Draws.{Draw, draw, draws, draw_each, generator, give}
use Rattle.model_trial.specs.MadeScript.{ended_line, lane_lines, script_lines, drawn_read, drawn_seek, drawn_lap, drawn_for, drawn_of_cursor, drawn_by, drawn_command, drawn_commands, drawn_lane, drawn_lanes, made_lanes, made_script}
use Rattle.model_trial.specs.MadeFilm.{MadeLink, made_links, ident_packet, comment_packet, setup_packet, drawn_body, with_head, next_mode, packets_behind, DrawnLink, drawn_link, drawn_links, packet_laces, page_of, packets_at, audio_page, audio_pages, link_pages, made_pages, made_film}
use Rattle.model_trial.proofs.DrawnScripts.{draws_length, draws_all, drawn_below}

-- ---- lists of lists

flat_short : {A B : Type 0} (f : A → List B) (most : ℕ) (xs : List A) → AllByRecursion (λ x. length (f x) ≤ most) xs → length (flat_map f xs) ≤ length xs * most
flat_short f most xs each = rw (length-flat_map f xs) (sum_by-le (λ x. length (f x)) most xs (All-from_recursion (λ x. length (f x) ≤ most) xs each))

all_joined : {A : Type 0} (P : A → Type 0) (xs ys : List A) → AllByRecursion P xs → AllByRecursion P ys → AllByRecursion P (xs ++ ys)
all_joined P [] ys x y = y
all_joined P (_ ∷ xs) ys x y = (x.0, all_joined P xs ys x.1 y)

all_flat : {A B : Type 0} (P : B → Type 0) (f : A → List B) (xs : List A) → AllByRecursion (λ x. AllByRecursion P (f x)) xs → AllByRecursion P (flat_map f xs)
all_flat P f [] each = tt
all_flat P f (x ∷ xs) each = all_joined P (f x) (flat_map f xs) each.0 (all_flat P f xs each.1)

all_mapped : {A B : Type 0} (P : B → Type 0) (f : A → B) (xs : List A) → ((x : A) → P (f x)) → AllByRecursion P (map f xs)
all_mapped P f [] h = tt
all_mapped P f (x ∷ xs) h = (h x, all_mapped P f xs h)

all_dropped : {A : Type 0} (P : A → Type 0) (n : ℕ) (xs : List A) → AllByRecursion P xs → AllByRecursion P (drop n xs)
all_dropped P zero xs each = each
all_dropped P (suc n) [] each = tt
all_dropped P (suc n) (_ ∷ xs) each = all_dropped P n xs each.1

all_taken : {A : Type 0} (P : A → Type 0) (n : ℕ) (xs : List A) → AllByRecursion P xs → AllByRecursion P (take n xs)
all_taken P zero xs each = tt
all_taken P (suc n) [] each = tt
all_taken P (suc n) (_ ∷ xs) each = (each.0, all_taken P n xs each.1)

few_taken : {A : Type 0} (n : ℕ) (xs : List A) → length (take n xs) ≤ n
few_taken zero xs = omega arith
few_taken (suc n) [] = omega arith
few_taken (suc n) (_ ∷ xs) = omega (arith, few_taken n xs)

-- ---- scripts

abbrev IsShortLine : Line → Type 0
IsShortLine line = length (ended_line line) ≤ 64

abbrev IsShort : Command → Type 0
IsShort command = IsShortLine (lines.Gives command)

few_digits : (n : ℕ) → n < 1000000 → length (decimal n) ≤ 6
few_digits n small = length-decimal-le 6 n (lit< tt) (omega (arith, small)) (omega (arith, small))

-- a front, a number, a space, a number and the end
two_numbers : (front : List ℕ) (c n : ℕ) → length front ≤ 10 → c < 1000000 → n < 1000000 → length (((front ++ decimal c) ++ (32 ∷ decimal n)) ++ 10 ∷ []) ≤ 64
two_numbers front c n few small other =
    omega (arith, few, few_digits c small, few_digits n other, length-append front (decimal c), length-append (front ++ decimal c) (32 ∷ decimal n), length-append ((front ++ decimal c) ++ (32 ∷ decimal n)) (10 ∷ []))

one_number : (front : List ℕ) (c : ℕ) → length front ≤ 10 → c < 1000000 → length ((front ++ decimal c) ++ 10 ∷ []) ≤ 64
one_number front c few small =
    omega (arith, few, few_digits c small, length-append front (decimal c), length-append (front ++ decimal c) (10 ∷ []))

short_lane : IsShortLine lines.Lane
short_lane = lit≤ tt

short_open : (c : ℕ) → c < 1000000 → IsShort (commands.Open c)
short_open c small = omega (arith, few_digits c small, length-append (decimal c) [], length-append (decimal c ++ []) (10 ∷ []))

short_read : (cursor : ℕ) → cursor < 2 → (g : Lcg) → IsShort (drawn_read cursor g).0
unfolding drawn_read
short_read cursor h g = let small = drawn_below 2000 g (lit< tt) in two_numbers (114 ∷ 101 ∷ 97 ∷ 100 ∷ 32 ∷ []) cursor (1 + (draw 2000 g).0) (lit≤ tt) (omega arith) (omega (arith, small))

short_seek : (cursor : ℕ) → cursor < 2 → (g : Lcg) → IsShort (drawn_seek cursor g).0
unfolding drawn_seek
short_seek cursor h g = let small = drawn_below 400000 g (lit< tt) in two_numbers (115 ∷ 101 ∷ 101 ∷ 107 ∷ 32 ∷ []) cursor (draw 400000 g).0 (lit≤ tt) (omega arith) (omega (arith, small))

short_lap : (cursor : ℕ) → cursor < 2 → (g : Lcg) → IsShort (drawn_lap cursor g).0
unfolding drawn_lap
short_lap cursor h g = let small = drawn_below 400000 g (lit< tt) in two_numbers (108 ∷ 97 ∷ 112 ∷ 32 ∷ []) cursor (draw 400000 g).0 (lit≤ tt) (omega arith) (omega (arith, small))

short_tell : (cursor : ℕ) → cursor < 2 → IsShort (commands.Tell cursor)
short_tell cursor h = omega (arith, few_digits cursor (omega arith), length-append (decimal cursor) [], length-append (decimal cursor ++ []) (10 ∷ []))

short_cross : IsShort (commands.Cross 0 1)
short_cross = omega (arith, few_digits 0 (lit< tt), few_digits 1 (lit< tt), length-append (decimal 0) (32 ∷ decimal 1), length-append (decimal 0 ++ (32 ∷ decimal 1)) [], length-append ((decimal 0 ++ (32 ∷ decimal 1)) ++ []) (10 ∷ []))

-- a choice, each way of which is short
chosen : (b : Bool) (m n : Draw Command) (g : Lcg) → IsShort (m g).0 → IsShort (n g).0 → IsShort ((if b then m else n) g).0
chosen true m n g x y = x
chosen false m n g x y = y

short_for : (kind cursor : ℕ) → cursor < 2 → (g : Lcg) → IsShort (drawn_for kind cursor g).0
unfolding drawn_for
short_for kind cursor h g =
    chosen (nat_lt kind 4) (drawn_read cursor) (if kind == 4 then drawn_seek cursor else (if kind == 5 then drawn_lap cursor else give (commands.Tell cursor))) g (short_read cursor h g)
    (chosen (kind == 4) (drawn_seek cursor) (if kind == 5 then drawn_lap cursor else give (commands.Tell cursor)) g (short_seek cursor h g)
    (chosen (kind == 5) (drawn_lap cursor) (give (commands.Tell cursor)) g (short_lap cursor h g) (short_tell cursor h)))

short_of_cursor : (kind : ℕ) (g : Lcg) → IsShort (drawn_of_cursor kind g).0
unfolding drawn_of_cursor
short_of_cursor kind g = short_for kind (draw 2 g).0 (drawn_below 2 g (lit< tt)) (draw 2 g).1

short_by : (kind : ℕ) (g : Lcg) → IsShort (drawn_by kind g).0
unfolding drawn_by
short_by kind g = chosen (kind == 6) (give (commands.Cross 0 1)) (drawn_of_cursor kind) g short_cross (short_of_cursor kind g)

short_command : (g : Lcg) → IsShort (drawn_command g).0
unfolding drawn_command
short_command g = short_by (draw 8 g).0 (draw 8 g).1

-- a lane whose lines are few and short
record IsShortLane (lane : List Command) : Type 0 where
  size : length lane ≡ 42
  each : AllByRecursion IsShort lane

short_drawn_lane : (g : Lcg) → IsShortLane (drawn_lane g).0
unfolding drawn_lane drawn_commands
short_drawn_lane g = record {
  size = omega (arith, draws_length drawn_command MADE_COMMANDS g);
  each = (short_open 0 (lit< tt), (short_open 1 (lit< tt), draws_all IsShort drawn_command short_command MADE_COMMANDS g));
}

lines_mapped : (lane : List Command) → AllByRecursion IsShort lane → AllByRecursion IsShortLine (map (λ command. lines.Gives command) lane)
lines_mapped [] each = tt
lines_mapped (command ∷ lane) each = (each.0, lines_mapped lane each.1)

lines_short : (lanes : List (List Command)) → AllByRecursion IsShortLane lanes → AllByRecursion IsShortLine (script_lines lanes)
lines_short [] each = tt
lines_short (lane ∷ lanes) each = all_joined IsShortLine (lane_lines lane) (script_lines lanes) (short_lane, lines_mapped lane each.0.each) (lines_short lanes each.1)

lines_few : (lanes : List (List Command)) → AllByRecursion IsShortLane lanes → length (script_lines lanes) ≡ 43 * length lanes
lines_few [] each = refl
lines_few (lane ∷ lanes) each =
    let own : length (map (λ command. lines.Gives command) lane) ≡ length lane = length-map lane (λ command. lines.Gives command) in
    omega (arith, own, each.0.size, lines_few lanes each.1, length-append (map (λ command. lines.Gives command) lane) (script_lines lanes))

short_text : (lanes : List (List Command)) → length lanes ≡ 4 → AllByRecursion IsShortLane lanes → length (flat_map ended_line (script_lines lanes)) < 2 ^ 32
short_text lanes four each = omega (arith, four, lines_few lanes each, flat_short ended_line 64 (script_lines lanes) (lines_short lanes each))

pub script_is_short : (number : ℕ) → length (made_script number) < 2 ^ 32
unfolding made_script made_lanes drawn_lanes
script_is_short number =
    let g = generator ((number + 1) % 2 ^ 64) in
    short_text (draws MADE_LANES drawn_lane g).0 (draws_length drawn_lane MADE_LANES g) (draws_all IsShortLane drawn_lane short_drawn_lane MADE_LANES g)

-- ---- films

abbrev IsFew : List ℕ → Type 0
IsFew packet = length packet ≤ 200

few_in_body : (g : Lcg) → IsFew (drawn_body g).0
unfolding drawn_body
few_in_body g = omega (arith, draws_length (draw 256) (4 + (draw 60 g).0) (draw 60 g).1, drawn_below 60 g (lit< tt))

few_with_head : (before mode after : ℕ) (body : List ℕ) → IsFew body → IsFew (with_head before mode after body)
few_with_head before mode after [] few = few
few_with_head before mode after (byte ∷ body) few = few

few_behind : (before : ℕ) (modes : List ℕ) (bodies : List (List ℕ)) → AllByRecursion IsFew bodies → AllByRecursion IsFew (packets_behind before modes bodies)
unfolding packets_behind
few_behind before [] bodies each = tt
few_behind before (mode ∷ modes) [] each = tt
few_behind before (mode ∷ modes) (body ∷ bodies) each = (few_with_head before mode (next_mode modes) body each.0, few_behind mode modes bodies each.1)

-- the headers of a link are short, and so are its packets
record IsShortLink (drawn : DrawnLink) : Type 0 where
  ident : IsFew (ident_packet drawn.link)
  setup : IsFew (setup_packet drawn.link)
  packets : AllByRecursion IsFew drawn.packets

record HasShortHeaders (link : MadeLink) : Type 0 where
  ident : IsFew (ident_packet link)
  setup : IsFew (setup_packet link)

short_headers : AllByRecursion HasShortHeaders made_links
unfolding count_leading_zeros ident_packet setup_packet
short_headers = (record { ident = lit≤ tt; setup = lit≤ tt }, (record { ident = lit≤ tt; setup = lit≤ tt }, (record { ident = lit≤ tt; setup = lit≤ tt }, tt)))

short_link : (link : MadeLink) (g : Lcg) → HasShortHeaders link → IsShortLink (drawn_link link g).0
unfolding drawn_link
short_link link g short = record {
  ident = short.ident;
  setup = short.setup;
  packets = few_behind 1 _ _ (draws_all IsFew drawn_body few_in_body MADE_PACKETS _);
}

short_links : (links : List MadeLink) (g : Lcg) → AllByRecursion HasShortHeaders links → AllByRecursion IsShortLink (draw_each drawn_link links g).0
short_links [] g each = tt
short_links (link ∷ links) g each = (short_link link g each.0, short_links links (drawn_link link g).1 each.1)

links_few : (links : List MadeLink) (g : Lcg) → length (draw_each drawn_link links g).0 ≡ length links
links_few [] g = refl
links_few (link ∷ links) g = ap suc (links_few links (drawn_link link g).1)

page_length : (page : PageFields) → length (written_page page) ≡ 27 + (length page.laces + length page.body)
unfolding written_page
page_length page = omega (arith, length-append page.laces page.body)

few_laces : (packet : List ℕ) → IsFew packet → length (packet_laces packet) ≤ 201
few_laces packet few = omega (arith, few, length-append (replicate (length packet / 255) 255) (length packet % 255 ∷ []), length-replicate {A = ℕ} (length packet / 255) 255)

all_laces : (packets : List (List ℕ)) → AllByRecursion IsFew packets → AllByRecursion (λ packet. length (packet_laces packet) ≤ 201) packets
all_laces [] each = tt
all_laces (packet ∷ packets) each = (few_laces packet each.0, all_laces packets each.1)

abbrev IsShortPage : PageFields → Type 0
IsShortPage page = length (written_page page) ≤ 5000

short_page : (link : MadeLink) (flags granule sequence : ℕ) (packets : List (List ℕ)) → length packets ≤ 10 → AllByRecursion IsFew packets → IsShortPage (page_of link flags granule sequence packets)
short_page link flags granule sequence packets ten each =
    omega (arith, ten, page_length (page_of link flags granule sequence packets), flat_short packet_laces 201 packets (all_laces packets each), flat_short (λ (packet : List ℕ). packet) 200 packets each)

few_comment : IsFew comment_packet
unfolding comment_packet
few_comment = lit≤ tt

short_audio_page : (drawn : DrawnLink) → IsShortLink drawn → (page : ℕ) → IsShortPage (audio_page drawn page)
unfolding audio_page
short_audio_page drawn short page =
    short_page drawn.link _ _ _ (packets_at drawn page) (few_taken 10 (drop (10 * page) drawn.packets)) (all_taken IsFew 10 (drop (10 * page) drawn.packets) (all_dropped IsFew (10 * page) drawn.packets short.packets))

short_pages : (drawn : DrawnLink) → IsShortLink drawn → AllByRecursion IsShortPage (link_pages drawn)
unfolding link_pages
short_pages drawn short = (
  short_page drawn.link 2 0 0 (ident_packet drawn.link ∷ []) (omega arith) (short.ident, tt),
  (
    short_page drawn.link 0 0 1 (comment_packet ∷ setup_packet drawn.link ∷ []) (omega arith) (few_comment, (short.setup, tt)),
    all_mapped IsShortPage (audio_page drawn) (range_with_len 0 audio_pages) (short_audio_page drawn short),
  ),
)

range_length : (a n : ℕ) → length (range_with_len a n) ≡ n
range_length a zero = refl
range_length a (suc n) = ap suc (range_length (a + 1) n)

pages_few : (drawn : DrawnLink) → length (link_pages drawn) ≤ 132
unfolding link_pages
pages_few drawn = omega (arith, length-map (range_with_len 0 audio_pages) (audio_page drawn), range_length 0 audio_pages)

all_pages_few : (links : List DrawnLink) → AllByRecursion (λ drawn. length (link_pages drawn) ≤ 132) links
all_pages_few [] = tt
all_pages_few (drawn ∷ links) = (pages_few drawn, all_pages_few links)

all_pages_short : (links : List DrawnLink) → AllByRecursion IsShortLink links → AllByRecursion (λ drawn. AllByRecursion IsShortPage (link_pages drawn)) links
all_pages_short [] each = tt
all_pages_short (drawn ∷ links) each = (short_pages drawn each.0, all_pages_short links each.1)

short_film : (links : List DrawnLink) → length links ≡ 3 → AllByRecursion IsShortLink links → length (written_pages (flat_map link_pages links)) < 2 ^ 32
short_film links three each =
    omega (arith, three, flat_short link_pages 132 links (all_pages_few links), flat_short written_page 5000 (flat_map link_pages links) (all_flat IsShortPage link_pages links (all_pages_short links each)))

pub film_is_short : (number : ℕ) → length (made_film number) < 2 ^ 32
unfolding made_film made_pages drawn_links
film_is_short number = short_film (draw_each drawn_link made_links (generator number)).0 (links_few made_links (generator number)) (short_links made_links (generator number) short_headers)
