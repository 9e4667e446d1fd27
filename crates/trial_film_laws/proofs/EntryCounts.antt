-- How many entries a made link has, and how many of them are packets.
use Rattle.std.proofs.Common.{◌≡◌, ℕ, zero, suc, ◌+◌, ◌-◌, ◌*◌, ◌<◌, ◌≤◌, Bool, true, false, cond, List, [], ◌∷◌, ◌++◌, length, take, drop, count_by, Option, Some, None, is_some, IfSome, if◌then◌else◌, ◌==◌, refl, ap, ◌∙◌, inl, inr, arith, lit<, lit≤, eq-eqb, ne_eqb}
use Rattle.std.specs.List.{flat_map, range_with_len, AllByRecursion}
use Rattle.std.specs.Option.{option_map_or}
use Rattle.std.proofs.lemmas.Bool.{cases_eq}
use Rattle.std.proofs.lemmas.List.{length-append, length-take-le, length-drop}
use Rattle.std.proofs.lemmas.List.Sums.{sum_by-cons, sum_by-append}
use Rattle.model_ogg.specs.declared.page.PageRef.{PageRef}
use Rattle.model_ogg.specs.declared.page.Mark.{Mark}
use Rattle.model_ogg.specs.Entries.{packet, lost}
use Rattle.model_line.specs.Acceptance.{is_packet, counts_of}
use Rattle.model_trial.specs.declared.numbers.TheConstants.{MADE_PACKETS, PACKETS_ON_PAGE}
use Rattle.model_trial.specs.MadeFilm.{MadeLink, DrawnLink, made_links, audio_pages, packets_at}
use Rattle.model_trial.specs.FilmRead.{marked_last, mark_at, follows_loss, page_entries, audio_entries, counts_read}
use Rattle.trial_film_laws.proofs.Entries.{link_items}

-- one where a test passes
abbrev one_if : {X : Type 0} → (X → Bool) → X → ℕ
one_if test x = cond (test x) 1 0

count-cons : {X : Type 0} (test : X → Bool) (x : X) (xs : List X) → count_by test (x ∷ xs) ≡ one_if test x + count_by test xs
count-cons test x xs = sum_by-cons (one_if test) x xs

count-append : {X : Type 0} (test : X → Bool) (xs ys : List X) → count_by test (xs ++ ys) ≡ count_by test xs + count_by test ys
count-append test xs ys = sum_by-append (one_if test) xs ys

-- ---- an audio page

length-marked_last : (mark : Mark) (qs : List (List ℕ)) → length (marked_last mark qs) ≡ length qs
length-marked_last mark [] = refl
length-marked_last mark (q ∷ []) = refl
length-marked_last mark (q ∷ r ∷ qs) = ap suc (length-marked_last mark (r ∷ qs))

packets-marked_last : (mark : Mark) (qs : List (List ℕ)) → count_by is_packet (marked_last mark qs) ≡ length qs
packets-marked_last mark [] = refl
packets-marked_last mark (q ∷ []) = refl
packets-marked_last mark (q ∷ r ∷ qs) =
    let own : count_by is_packet (packet q None ∷ marked_last mark (r ∷ qs)) ≡ 1 + count_by is_packet (marked_last mark (r ∷ qs)) = count-cons is_packet (packet q None) (marked_last mark (r ∷ qs)) in
    let others : count_by is_packet (marked_last mark (r ∷ qs)) ≡ suc (length qs) = packets-marked_last mark (r ∷ qs) in
    own ∙ (omega arith)

length-loss : (b : Bool) → length (if b then lost ∷ [] else []) ≡ cond b 1 0
length-loss true = refl
length-loss false = refl

packets-loss : (b : Bool) → count_by is_packet (if b then lost ∷ [] else []) ≡ 0
packets-loss true = refl
packets-loss false = refl

module _ (drawn : DrawnLink) where
  length-page : (page : ℕ) → length (page_entries drawn page) ≡ one_if (follows_loss drawn.link) page + length (packets_at drawn page)
  unfolding page_entries
  length-page page =
      let loss = length-loss (follows_loss drawn.link page) in
      let own = length-marked_last (mark_at drawn page) (packets_at drawn page) in
      omega (arith, length-append (if follows_loss drawn.link page then lost ∷ [] else []) (marked_last (mark_at drawn page) (packets_at drawn page)))

  packets-page : (page : ℕ) → count_by is_packet (page_entries drawn page) ≡ length (packets_at drawn page)
  unfolding page_entries
  packets-page page =
      let loss = packets-loss (follows_loss drawn.link page) in
      let own = packets-marked_last (mark_at drawn page) (packets_at drawn page) in
      omega (arith, count-append is_packet (if follows_loss drawn.link page then lost ∷ [] else []) (marked_last (mark_at drawn page) (packets_at drawn page)))

  full_page : (page : ℕ) → PACKETS_ON_PAGE * (page + 1) ≤ length drawn.packets → length (packets_at drawn page) ≡ PACKETS_ON_PAGE
  full_page page enough = length-take-le PACKETS_ON_PAGE (drop (PACKETS_ON_PAGE * page) drawn.packets) (omega (arith, length-drop (PACKETS_ON_PAGE * page) drawn.packets))

  -- ---- a run of audio pages

  run_packets : (n page : ℕ) → PACKETS_ON_PAGE * (page + n) ≤ length drawn.packets
      → count_by is_packet (flat_map (page_entries drawn) (range_with_len page n)) ≡ PACKETS_ON_PAGE * n
  run_packets zero page enough = refl
  run_packets (suc n) page enough =
      let others = flat_map (page_entries drawn) (range_with_len (page + 1) n) in
      let joined = count-append is_packet (page_entries drawn page) others in
      let own = packets-page page in
      let full = full_page page (omega arith) in
      let rest : count_by is_packet others ≡ PACKETS_ON_PAGE * n = run_packets n (page + 1) (omega arith) in
      joined ∙ (omega arith)

  run_length : (n page : ℕ) → PACKETS_ON_PAGE * (page + n) ≤ length drawn.packets
      → length (flat_map (page_entries drawn) (range_with_len page n)) ≡ PACKETS_ON_PAGE * n + count_by (follows_loss drawn.link) (range_with_len page n)
  run_length zero page enough = refl
  run_length (suc n) page enough =
      let others = flat_map (page_entries drawn) (range_with_len (page + 1) n) in
      let joined = length-append (page_entries drawn page) others in
      let own = length-page page in
      let full = full_page page (omega arith) in
      let losses = count-cons (follows_loss drawn.link) page (range_with_len (page + 1) n) in
      let rest : length others ≡ PACKETS_ON_PAGE * n + count_by (follows_loss drawn.link) (range_with_len (page + 1) n) = run_length n (page + 1) (omega arith) in
      omega arith

-- ---- the losses of a link

none_more : {X : Type 0} (test : X → Bool) (x : X) (xs : List X) → test x ≡ false → count_by test (x ∷ xs) ≡ count_by test xs
none_more test x xs e = let own : one_if test x ≡ 0 = rw e refl in count-cons test x xs ∙ (omega arith)

one_more : {X : Type 0} (test : X → Bool) (x : X) (xs : List X) → test x ≡ true → count_by test (x ∷ xs) ≡ 1 + count_by test xs
one_more test x xs e = let own : one_if test x ≡ 1 = rw e refl in count-cons test x xs ∙ (omega arith)

gap_before : (gap n page : ℕ) → gap < page → count_by (λ p. gap == p) (range_with_len page n) ≡ 0
gap_before gap zero page less = refl
gap_before gap (suc n) page less = none_more (λ p. gap == p) page (range_with_len (page + 1) n) (ne_eqb gap page (omega arith)) ∙ gap_before gap n (page + 1) (omega arith)

gap_within : (gap n page : ℕ) → page ≤ gap → gap < page + n → count_by (λ p. gap == p) (range_with_len page n) ≡ 1
gap_within gap zero page from to = absurd (omega arith)
gap_within gap (suc n) page from to = elim (cases_eq gap page) [
  | inl same ↦ one_more (λ p. gap == p) page (range_with_len (page + 1) n) (eq-eqb gap page same) ∙ ap (λ n. 1 + n) (gap_before gap n (page + 1) (omega arith))
  | inr other ↦ none_more (λ p. gap == p) page (range_with_len (page + 1) n) (ne_eqb gap page other) ∙ gap_within gap n (page + 1) (omega arith) (omega arith)
]

no_gap : (n page : ℕ) → count_by (λ p. false) (range_with_len page n) ≡ 0
no_gap zero page = refl
no_gap (suc n) page = none_more (λ p. false) page (range_with_len (page + 1) n) refl ∙ no_gap n (page + 1)

-- the page that is left out, if one is, is among the first n
abbrev pub IsWithin : ℕ → Option ℕ → Type 0
IsWithin n lost_before = IfSome lost_before (λ page. page < n)

losses_of : (o : Option ℕ) (n : ℕ) → IsWithin n o → count_by (λ page. option_map_or (λ gap. gap == page) o false) (range_with_len 0 n) ≡ (if is_some o then 1 else 0)
losses_of None n within = no_gap n 0
losses_of (Some gap) n within = gap_within gap n 0 (omega arith) (omega arith)

-- ---- a link

-- the page that is left out of a link, if one is, is an audio page
abbrev pub LosesAudio : MadeLink → Type 0
LosesAudio link = IsWithin audio_pages link.lost_before

pub made_links-lose_audio : AllByRecursion LosesAudio made_links
made_links-lose_audio = (tt, (lit< tt, (tt, tt)))

pub packet_count : (drawn : DrawnLink) → length drawn.packets ≡ MADE_PACKETS → count_by is_packet (audio_entries drawn) ≡ MADE_PACKETS
unfolding audio_entries
packet_count drawn count = run_packets drawn audio_pages 0 (omega arith)

pub entry_count : (drawn : DrawnLink) → length drawn.packets ≡ MADE_PACKETS → LosesAudio drawn.link
    → length (audio_entries drawn) ≡ MADE_PACKETS + (if is_some drawn.link.lost_before then 1 else 0)
unfolding audio_entries
entry_count drawn count loses = run_length drawn audio_pages 0 (omega arith) ∙ ap (λ n. MADE_PACKETS + n) (losses_of drawn.link.lost_before audio_pages loses)

-- ---- with the headers

loss_most : (b : Bool) → (if b then 1 else 0) ≤ 1
loss_most true = lit≤ tt
loss_most false = lit≤ tt

pub item_count : (drawn : DrawnLink) → length drawn.packets ≡ MADE_PACKETS → LosesAudio drawn.link → length (link_items drawn) ≤ 3 + MADE_PACKETS + 1
item_count drawn count loses = let most = loss_most (is_some drawn.link.lost_before) in omega (arith, entry_count drawn count loses)

packets_with_headers : (drawn : DrawnLink) → length drawn.packets ≡ MADE_PACKETS → count_by is_packet (link_items drawn) ≡ 3 + MADE_PACKETS
packets_with_headers drawn count = count-append is_packet (take 3 (link_items drawn)) (audio_entries drawn) ∙ ap (λ n. 3 + n) (packet_count drawn count)

pub counts_are : (drawn : DrawnLink) (stream : List PageRef) → length drawn.packets ≡ MADE_PACKETS → LosesAudio drawn.link → length stream ≡ 2 + audio_pages
    → counts_of drawn.link.serial stream (link_items drawn) ≡ counts_read drawn.link
counts_are drawn stream count loses pages =
    let packets = packets_with_headers drawn count in
    let others : length (link_items drawn) - count_by is_packet (link_items drawn) ≡ (if is_some drawn.link.lost_before then 1 else 0) = omega (arith, entry_count drawn count loses) in
    rw (others, packets, pages) refl
