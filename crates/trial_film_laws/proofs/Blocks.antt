-- All packets of made films are blocks, of which each link has as many as packets are drawn for it.
use Rattle.std.proofs.Common.{◌≡◌, ℕ, zero, suc, ◌+◌, ◌-◌, ◌*◌, Bool, true, false, List, [], ◌∷◌, ◌++◌, length, drop, map, min, refl, sym, ap, ◌∙◌, subst, arith, length-append, length-drop}
use Rattle.std.specs.Prelude.{◌==◌, if◌then◌else◌}
use Rattle.std.specs.List.{AllByRecursion, flat_map, range_with_len}
use Rattle.std.proofs.lemmas.Bool.{cond_both}
use Rattle.std.proofs.lemmas.List.{length-map, length-take}
use Rattle.std.proofs.lemmas.List.Concat.{flat_map-append}
use Rattle.std.proofs.lemmas.List.Elements.{recursion_from_All, All-take, All-drop, All-from_recursion}
use Rattle.model_ogg.specs.declared.page.Mark.{Mark}
use Rattle.model_ogg.specs.Entries.{StreamItem, lost}
use Rattle.model_setup.specs.declared.setup.PacketHead.{PacketHead}
use Rattle.model_setup.specs.declared.setup.PacketHead.TheVariants.{Block}
use Rattle.model_setup.specs.AudioHead.{head_of}
use Rattle.model_line.specs.PacketRows.{block_by_head, block_packet, link_block_packets, block_packets_from}
use Rattle.model_trial.specs.declared.numbers.TheConstants.{MADE_PACKETS, PACKETS_ON_PAGE}
use Rattle.model_trial.specs.MadeFilm.{DrawnLink, next_mode, drawn_links, audio_pages, packets_at}
use Rattle.model_trial.specs.FilmRead.{marked_last, mark_at, follows_loss, page_entries, audio_entries, link_read, links_read, head_between, heads_behind}
use Rattle.trial_film_laws.specs.Laws.{IsDrawn, MadePacketsAreBlocks}
use Rattle.trial_film_laws.proofs.Heads.{made_flags}
use Rattle.trial_film_laws.proofs.Drawn.{made_links_are_drawn}
use Rattle.trial_film_laws.proofs.Lists.{all_before_map}

-- ---- heads

-- a packet with this head decodes to one block
abbrev pub IsBlock : PacketHead → Type 0
IsBlock head = (number : ℕ) (bytes : List ℕ) → length (block_by_head number bytes head) ≡ 1

is_block : (before mode after : ℕ) → IsBlock (head_between before mode after)
is_block before mode after =
    cond_both (mode == 0) (Block 0 false false) (Block 1 (before == 1) (after == 1)) IsBlock (λ _ number bytes. refl) (λ _ number bytes. refl)

are_blocks : (before : ℕ) (modes : List ℕ) → AllByRecursion IsBlock (heads_behind before modes)
unfolding heads_behind
are_blocks before [] = tt
are_blocks before (mode ∷ modes) = (is_block before mode (next_mode modes), are_blocks mode modes)

pub length-heads_behind : (before : ℕ) (modes : List ℕ) → length (heads_behind before modes) ≡ length modes
unfolding heads_behind
length-heads_behind before [] = refl
length-heads_behind before (mode ∷ modes) = ap suc (length-heads_behind mode modes)

-- packets each of which decodes to one block
abbrev pub AreBlocks : List (List ℕ) → Type 0
AreBlocks packets = AllByRecursion (λ (packet : List ℕ). IsBlock (head_of made_flags packet)) packets

pub drawn_are_blocks : (drawn : DrawnLink) → IsDrawn drawn → AreBlocks drawn.packets
drawn_are_blocks drawn is =
    all_before_map IsBlock (head_of made_flags) drawn.packets (subst (AllByRecursion IsBlock) (sym is.heads) (are_blocks 1 drawn.modes))

pub drawn_packet_count : (drawn : DrawnLink) → IsDrawn drawn → length drawn.packets ≡ MADE_PACKETS
drawn_packet_count drawn is =
    sym (length-map drawn.packets (head_of made_flags)) ∙ ap (λ (hs : List PacketHead). length hs) is.heads ∙ length-heads_behind 1 drawn.modes ∙ is.count

-- ---- entries

marked_blocks : (number : ℕ) (mark : Mark) (packets : List (List ℕ)) → AreBlocks packets → length (flat_map (block_packet number made_flags) (marked_last mark packets)) ≡ length packets
marked_blocks number mark [] are = refl
marked_blocks number mark (p ∷ []) are =
    omega (arith, length-append (block_by_head number p (head_of made_flags p)) [], are.0 number p)
marked_blocks number mark (p ∷ q ∷ ps) are =
    omega (arith, length-append (block_by_head number p (head_of made_flags p)) (flat_map (block_packet number made_flags) (marked_last mark (q ∷ ps))), are.0 number p, marked_blocks number mark (q ∷ ps) are.1)

no_block_lost : (number : ℕ) (b : Bool) → flat_map (block_packet number made_flags) (if b then lost ∷ [] else []) ≡ []
no_block_lost number true = refl
no_block_lost number false = refl

blocks_at : (drawn : DrawnLink) → IsDrawn drawn → (page : ℕ) → AreBlocks (packets_at drawn page)
blocks_at drawn is page =
    let P = λ (packet : List ℕ). IsBlock (head_of made_flags packet) in
    recursion_from_All P (packets_at drawn page) (All-take P PACKETS_ON_PAGE (drop (PACKETS_ON_PAGE * page) drawn.packets) (All-drop P (PACKETS_ON_PAGE * page) drawn.packets (All-from_recursion P drawn.packets (drawn_are_blocks drawn is))))

-- as many blocks as an audio page has packets
pub page_blocks : (number : ℕ) (drawn : DrawnLink) → IsDrawn drawn → (page : ℕ) → length (flat_map (block_packet number made_flags) (page_entries drawn page)) ≡ length (packets_at drawn page)
unfolding page_entries
page_blocks number drawn is page =
    let f = block_packet number made_flags in
    let marked = marked_last (mark_at drawn page) (packets_at drawn page) in
    let loss : List StreamItem = if follows_loss drawn.link page then lost ∷ [] else [] in
    ap length (flat_map-append f loss marked) ∙ ap (λ xs. length (xs ++ flat_map f marked)) (no_block_lost number (follows_loss drawn.link page))
    ∙ marked_blocks number (mark_at drawn page) (packets_at drawn page) (blocks_at drawn is page)

pub length-packets_at : (drawn : DrawnLink) (page : ℕ) → length (packets_at drawn page) ≡ min PACKETS_ON_PAGE (length drawn.packets - PACKETS_ON_PAGE * page)
length-packets_at drawn page =
    length-take PACKETS_ON_PAGE (drop (PACKETS_ON_PAGE * page) drawn.packets)
    ∙ ap (λ n. min PACKETS_ON_PAGE n) (length-drop (PACKETS_ON_PAGE * page) drawn.packets)

-- ---- links

module _ (number : ℕ) (drawn : DrawnLink) (is : IsDrawn drawn) where
  pages_blocks : (a n : ℕ) → length (flat_map (block_packet number made_flags) (flat_map (page_entries drawn) (range_with_len a n))) ≡ min (PACKETS_ON_PAGE * n) (length drawn.packets - PACKETS_ON_PAGE * a)
  pages_blocks a zero = omega arith
  pages_blocks a (suc n) =
      let f = block_packet number made_flags in
      let rest = flat_map (page_entries drawn) (range_with_len (a + 1) n) in
      ap length (flat_map-append f (page_entries drawn a) rest)
      ∙ omega (arith, length-append (flat_map f (page_entries drawn a)) (flat_map f rest), page_blocks number drawn is a, length-packets_at drawn a, pages_blocks (a + 1) n)

  pub link_blocks : length (link_block_packets number (link_read drawn)) ≡ MADE_PACKETS
  unfolding link_block_packets link_read audio_entries
  link_blocks = pages_blocks 0 audio_pages ∙ omega (arith, drawn_packet_count drawn is)

all_blocks : (number : ℕ) (links : List DrawnLink) → AllByRecursion IsDrawn links → length (block_packets_from number (map link_read links)) ≡ length links * MADE_PACKETS
unfolding block_packets_from
all_blocks number [] are = omega arith
all_blocks number (drawn ∷ links) are =
    omega (arith, length-append (link_block_packets number (link_read drawn)) (block_packets_from (number + 1) (map link_read links)), link_blocks number drawn are.0, all_blocks (number + 1) links are.1)

pub link_count : (number : ℕ) → length (drawn_links number) ≡ 3
link_count number =
    sym (length-map (drawn_links number) (λ (drawn : DrawnLink). drawn.link)) ∙ ap length (made_links_are_drawn number).made

pub made_packets_are_blocks : MadePacketsAreBlocks
unfolding links_read
made_packets_are_blocks number =
    let are = recursion_from_All IsDrawn (drawn_links number) (made_links_are_drawn number).drawn in
    all_blocks 0 (drawn_links number) are ∙ omega (arith, link_count number)
