-- The entries of a made link's pages: the header packets, and behind them the packets of each audio page, with one loss
-- where sequence numbers leave one out.
use Rattle.std.proofs.Common.{◌≡◌, ℕ, zero, suc, ◌+◌, ◌%◌, ◌^◌, ◌<◌, ◌≤◌, Bool, true, false, not, ◌&&◌, ◌||◌, List, [], ◌∷◌, ◌++◌, map, Option, Some, None, option_map, if◌then◌else◌, nat_lt, nat_le, ◌==◌, refl, ap, ap₂, ◌∙◌, inl, inr, arith, lit<, eq-eqb, ne_eqb, le-leb, lt-ltb, le-ltb}
use Rattle.std.specs.Bool.{beq}
use Rattle.std.specs.Int.{bit_at}
use Rattle.std.specs.List.{flat_map, range_with_len, AllByRecursion}
use Rattle.std.specs.Option.{option_map_or}
use Rattle.std.proofs.lemmas.Bool.{cases_order, lt-leb}
use Rattle.model_ogg.specs.declared.page.PageRef.{PageRef}
use Rattle.model_ogg.specs.declared.page.Mark.{Mark}
use Rattle.model_ogg.specs.Pages.{IsPageOf, laces_of, body_of}
use Rattle.model_ogg.specs.Streams.{is_continued}
use Rattle.model_ogg.specs.Writing.{PageFields, fields_of}
use Rattle.model_ogg.specs.Entries.{StreamItem, packet, lost, Segment, segments, segments_of, after_end, packets_ended, left_pending, has_any, is_missing, loses, forgets, kept_pending, kept_segments, mark_of, page_items, page_pending, next_sequence, items_after, stream_items}
use Rattle.model_trial.specs.MadeFilm.{MadeLink, DrawnLink, ident_packet, comment_packet, setup_packet, packet_laces, page_of, audio_pages, is_last_page, granule_at, sequence_at, packets_at, audio_page, link_pages}
use Rattle.model_trial.specs.FilmRead.{marked_last, follows_loss, page_entries, audio_entries}
use Rattle.trial_film_laws.proofs.PagePackets.{segments_of-body, packets_on_page, nothing_left_open}

-- ---- a page that goes on with no packet, where none is open

fresh_loss : (missing some continued : Bool) → continued ≡ false → (missing || (some && not (beq continued false))) ≡ missing
fresh_loss true some continued e = refl
fresh_loss false false continued e = refl
fresh_loss false true continued e = rw e refl

none_either_way : (b : Bool) → ◌≡◌ {A = Option (List ℕ)} (if b then None else None) None
none_either_way true = refl
none_either_way false = refl

all_kept : (continued : Bool) (ss : List Segment) → continued ≡ false → (if continued && not false then after_end ss else ss) ≡ ss
all_kept continued ss e = rw e refl

module _ (expected : Option ℕ) (p : PageRef) (ss : List Segment) (fresh : is_continued p ≡ false) where
  kept_is : kept_pending expected None p ss ≡ None
  kept_is = none_either_way (forgets expected p (has_any ss))

  loses_is : loses expected false p (has_any ss) ≡ is_missing expected p
  loses_is = fresh_loss (is_missing expected p) (has_any ss) (is_continued p) fresh

  segments_kept : kept_segments None p ss ≡ ss
  segments_kept = all_kept (is_continued p) ss fresh

  fresh_items : page_items expected None p ss ≡ (if is_missing expected p then lost ∷ [] else []) ++ packets_ended (mark_of p) None ss
  unfolding page_items
  fresh_items =
      ap₂ (λ (b : Bool) (items : List StreamItem). (if b then lost ∷ [] else []) ++ items) loses_is
      (ap (λ (kept : Option (List ℕ)). packets_ended (mark_of p) kept (kept_segments kept p ss)) kept_is ∙ ap (packets_ended (mark_of p) None) segments_kept)

  fresh_pending : page_pending expected None p ss ≡ left_pending None ss
  unfolding page_pending
  fresh_pending = ap (λ (kept : Option (List ℕ)). left_pending kept (kept_segments kept p ss)) kept_is ∙ ap (left_pending None) segments_kept

-- ---- a page of whole packets, by what it says

-- another sequence number is expected before a page of this one
abbrev differs : Option ℕ → ℕ → Bool
differs None sequence = false
differs (Some expected) sequence = not (sequence == expected)

missing_is : (expected : Option ℕ) (p : PageRef) → is_missing expected p ≡ differs expected p.sequence
missing_is None p = refl
missing_is (Some expected) p = refl

module _ (bytes : List ℕ) (link : MadeLink) (flags granule sequence : ℕ) (packets : List (List ℕ)) (p : PageRef) (stands : IsPageOf bytes p) (says : fields_of bytes p ≡ page_of link flags granule sequence packets) (fresh : (bit_at flags 0 == 1) ≡ false) where
  flags_is : p.flags ≡ flags
  flags_is = ap (λ (f : PageFields). f.flags) says

  granule_is : p.granule ≡ Some granule
  granule_is = ap (λ (f : PageFields). f.granule) says

  sequence_is : p.sequence ≡ sequence
  sequence_is = ap (λ (f : PageFields). f.sequence) says

  laces_are : laces_of bytes p ≡ flat_map packet_laces packets
  laces_are = ap (λ (f : PageFields). f.laces) says

  body_is : body_of bytes p ≡ flat_map (λ packet. packet) packets
  body_is = ap (λ (f : PageFields). f.body) says

  segments_are : segments_of bytes p ≡ segments (flat_map packet_laces packets) (flat_map (λ packet. packet) packets)
  segments_are = segments_of-body bytes p stands ∙ ap₂ segments laces_are body_is

  goes_on_with_none : is_continued p ≡ false
  goes_on_with_none = ap (λ f. bit_at f 0 == 1) flags_is ∙ fresh

  abbrev own_mark : Mark
  own_mark = record { granule = granule; last = bit_at flags 2 == 1 }

  mark_is : mark_of p ≡ Some own_mark
  mark_is = ap₂ (λ (g : Option ℕ) (f : ℕ). option_map {U = Mark} (λ granule. record { granule = granule; last = bit_at f 2 == 1 }) g) granule_is flags_is

  page_gives : (expected : Option ℕ) (ps : List PageRef) → items_after bytes expected None (p ∷ ps)
      ≡ ((if differs expected sequence then lost ∷ [] else []) ++ marked_last own_mark packets) ++ items_after bytes (Some ((sequence + 1) % 2 ^ 32)) None ps
  unfolding items_after
  page_gives expected ps =
      let ss = segments_of bytes p in
      let loss : is_missing expected p ≡ differs expected sequence = missing_is expected p ∙ ap (differs expected) sequence_is in
      let ended : packets_ended (mark_of p) None ss ≡ marked_last own_mark packets =
      ap₂ (λ (mark : Option Mark) (ss : List Segment). packets_ended mark None ss) mark_is segments_are ∙ packets_on_page own_mark packets in
      let items : page_items expected None p ss ≡ (if differs expected sequence then lost ∷ [] else []) ++ marked_last own_mark packets =
      fresh_items expected p ss goes_on_with_none ∙ ap₂ (λ (b : Bool) (items : List StreamItem). (if b then lost ∷ [] else []) ++ items) loss ended in
      let open_after : page_pending expected None p ss ≡ None =
      fresh_pending expected p ss goes_on_with_none ∙ ap (left_pending None) segments_are ∙ nothing_left_open packets in
      let next : next_sequence p ≡ (sequence + 1) % 2 ^ 32 = ap (λ n. (n + 1) % 2 ^ 32) sequence_is in
      ap₂ (λ (a b : List StreamItem). a ++ b) items (ap₂ (λ (n : ℕ) (pending : Option (List ℕ)). items_after bytes (Some n) pending ps) next open_after)

-- ---- the sequence numbers of a link's audio pages

-- how much greater sequence numbers are behind a page that is left out, before this page and with it
abbrev left_before : Option ℕ → ℕ → ℕ
left_before o page = option_map_or (λ gap. if nat_lt gap page then 1 else 0) o 0

abbrev left_with : Option ℕ → ℕ → ℕ
left_with o page = option_map_or (λ gap. if nat_le gap page then 1 else 0) o 0

-- the sequence number that is expected before an audio page
abbrev expected_at : MadeLink → ℕ → ℕ
expected_at link page = 2 + page + left_before link.lost_before page

next_left : (o : Option ℕ) (page : ℕ) → left_with o page ≡ left_before o (page + 1)
next_left None page = refl
next_left (Some gap) page = elim (cases_order gap page) [
  | inl same ↦ rw (le-leb gap page (omega arith), lt-ltb gap (page + 1) (omega arith)) refl
  | inr (inl less) ↦ rw (le-leb gap page (omega arith), lt-ltb gap (page + 1) (omega arith)) refl
  | inr (inr more) ↦ rw (lt-leb gap page more, le-ltb gap (page + 1) (omega arith)) refl
]

left_small : (o : Option ℕ) (page : ℕ) → left_with o page ≤ 1
left_small None page = omega arith
left_small (Some gap) page = small (nat_le gap page)
  where
    small : (b : Bool) → (if b then 1 else 0) ≤ 1
    small true = omega arith
    small false = omega arith

next_expected : (link : MadeLink) (page : ℕ) → page < 1000 → (sequence_at link page + 1) % 2 ^ 32 ≡ expected_at link (page + 1)
unfolding sequence_at
next_expected link page few =
    let small = left_small link.lost_before page in
    let next = next_left link.lost_before page in
    omega arith

left_out : (o : Option ℕ) (page : ℕ) → not (2 + page + left_with o page == 2 + page + left_before o page) ≡ option_map_or (λ gap. gap == page) o false
left_out None page = ap not (eq-eqb (2 + page + 0) (2 + page + 0) refl)
left_out (Some gap) page = elim (cases_order gap page) [
  | inl same ↦ rw (le-leb gap page (omega arith), le-ltb gap page (omega arith), eq-eqb gap page same, ne_eqb (2 + page + 1) (2 + page + 0) (omega arith)) refl
  | inr (inl less) ↦ rw (le-leb gap page (omega arith), lt-ltb gap page less, ne_eqb gap page (omega arith), eq-eqb (2 + page + 1) (2 + page + 1) refl) refl
  | inr (inr more) ↦ rw (lt-leb gap page more, le-ltb gap page (omega arith), ne_eqb gap page (omega arith), eq-eqb (2 + page + 0) (2 + page + 0) refl) refl
]

missing_where_left : (link : MadeLink) (page : ℕ) → differs (Some (expected_at link page)) (sequence_at link page) ≡ follows_loss link page
unfolding sequence_at
missing_where_left link page = left_out link.lost_before page

-- ---- a run of audio pages

no_first_flag : (b : Bool) → (bit_at (if b then 4 else 0) 0 == 1) ≡ false
no_first_flag true = refl
no_first_flag false = refl

last_flag : (b : Bool) → (bit_at (if b then 4 else 0) 2 == 1) ≡ b
last_flag true = refl
last_flag false = refl

audio_page_gives : (drawn : DrawnLink) (bytes : List ℕ) (page : ℕ) (p : PageRef) (ps : List PageRef) → page < 1000 → IsPageOf bytes p → fields_of bytes p ≡ audio_page drawn page
    → items_after bytes (Some (expected_at drawn.link page)) None (p ∷ ps) ≡ page_entries drawn page ++ items_after bytes (Some (expected_at drawn.link (page + 1))) None ps
unfolding audio_page page_entries
audio_page_gives drawn bytes page p ps few stands says =
    let flags = if is_last_page page then 4 else 0 in
    page_gives bytes drawn.link flags (granule_at drawn page) (sequence_at drawn.link page) (packets_at drawn page) p stands says (no_first_flag (is_last_page page)) (Some (expected_at drawn.link page)) ps
    ∙ ap₂ (λ (a : List StreamItem) (n : ℕ). a ++ items_after bytes (Some n) None ps)
    (ap₂ (λ (b l : Bool). (if b then lost ∷ [] else []) ++ marked_last (record { granule = granule_at drawn page; last = l }) (packets_at drawn page)) (missing_where_left drawn.link page) (last_flag (is_last_page page)))
    (next_expected drawn.link page few)

run_gives : (drawn : DrawnLink) (bytes : List ℕ) (n page : ℕ) (ps : List PageRef) → page + n < 1000 → AllByRecursion (IsPageOf bytes) ps
    → map (fields_of bytes) ps ≡ map (audio_page drawn) (range_with_len page n)
    → items_after bytes (Some (expected_at drawn.link page)) None ps ≡ flat_map (page_entries drawn) (range_with_len page n)
unfolding items_after
run_gives drawn bytes zero page [] few stand say = refl
run_gives drawn bytes zero page (p ∷ ps) few stand say = cc
run_gives drawn bytes (suc n) page [] few stand say = cc
run_gives drawn bytes (suc n) page (p ∷ ps) few stand say =
    let first : fields_of bytes p ≡ audio_page drawn page = cc in
    let others : map (fields_of bytes) ps ≡ map (audio_page drawn) (range_with_len (page + 1) n) = cc in
    audio_page_gives drawn bytes page p ps (omega arith) stand.0 first
    ∙ ap (λ (items : List StreamItem). page_entries drawn page ++ items) (run_gives drawn bytes n (page + 1) ps (omega arith) stand.1 others)

-- ---- a link

-- the mark of its pages of headers
abbrev pub header_mark : Mark
header_mark = record { granule = 0; last = false }

-- the three header packets, before these entries
abbrev pub behind_headers : MadeLink → List StreamItem → List StreamItem
behind_headers link entries = packet (ident_packet link) (Some header_mark) ∷ packet comment_packet None ∷ packet (setup_packet link) (Some header_mark) ∷ entries

-- the entries of a link, its headers among them
abbrev pub link_items : DrawnLink → List StreamItem
link_items drawn = behind_headers drawn.link (audio_entries drawn)

two_expected : (o : Option ℕ) → 2 ≡ 2 + 0 + left_before o 0
two_expected None = refl
two_expected (Some gap) = rw (le-ltb gap 0 (omega arith)) refl

-- where n audio pages stand behind its headers
headed_run : (drawn : DrawnLink) (bytes : List ℕ) (n : ℕ) (ps : List PageRef) → n < 1000 → AllByRecursion (IsPageOf bytes) ps
    → map (fields_of bytes) ps ≡ page_of drawn.link 2 0 0 (ident_packet drawn.link ∷ []) ∷ page_of drawn.link 0 0 1 (comment_packet ∷ setup_packet drawn.link ∷ []) ∷ map (audio_page drawn) (range_with_len 0 n)
    → stream_items bytes ps ≡ behind_headers drawn.link (flat_map (page_entries drawn) (range_with_len 0 n))
headed_run drawn bytes n [] few stand say = cc
headed_run drawn bytes n (p ∷ []) few stand say = cc
headed_run drawn bytes n (p ∷ q ∷ ps) few stand say =
    let one : fields_of bytes p ≡ page_of drawn.link 2 0 0 (ident_packet drawn.link ∷ []) = cc in
    let two : fields_of bytes q ≡ page_of drawn.link 0 0 1 (comment_packet ∷ setup_packet drawn.link ∷ []) = cc in
    let others : map (fields_of bytes) ps ≡ map (audio_page drawn) (range_with_len 0 n) = cc in
    page_gives bytes drawn.link 2 0 0 (ident_packet drawn.link ∷ []) p stand.0 one refl None (q ∷ ps)
    ∙ ap (λ (items : List StreamItem). packet (ident_packet drawn.link) (Some header_mark) ∷ items)
    (page_gives bytes drawn.link 0 0 1 (comment_packet ∷ setup_packet drawn.link ∷ []) q stand.1.0 two refl (Some 1) ps
    ∙ ap (λ (items : List StreamItem). packet comment_packet None ∷ packet (setup_packet drawn.link) (Some header_mark) ∷ items)
    (ap (λ n. items_after bytes (Some n) None ps) (two_expected drawn.link.lost_before) ∙ run_gives drawn bytes n 0 ps (omega arith) stand.1.1 others))

-- the entries of a link's pages
pub link_entries : (drawn : DrawnLink) (bytes : List ℕ) (ps : List PageRef) → AllByRecursion (IsPageOf bytes) ps → map (fields_of bytes) ps ≡ link_pages drawn → stream_items bytes ps ≡ link_items drawn
unfolding link_pages audio_entries
link_entries drawn bytes ps stand say = headed_run drawn bytes audio_pages ps (lit< tt) stand say
