-- The link of a block, by how many links end before it.
use Rattle.std.proofs.Common.{◌≡◌, ℕ, zero, suc, ◌+◌, ◌-◌, ◌<◌, ◌≤◌, List, [], ◌∷◌, ◌++◌, length, map, get_or, leb, true, false, Bool, Option, Some, refl, sym, ap, ◌∙◌, arith, length-append}
use Rattle.std.specs.List.{All, slice_get, flat_map}
use Rattle.std.specs.Option.{option_map_or}
use Rattle.std.specs.List.Sorted.{IsNonDecreasingBy, IsPartitionPoint}
use Rattle.std.proofs.lemmas.List.{length-map}
use Rattle.std.proofs.lemmas.List.Elements.{All-nil, All-cons, All-append}
use Rattle.std.proofs.lemmas.Option.{slice_get-get_or, get_or_from_slice_get}
use Rattle.model_ogg.specs.Entries.{StreamItem, packet, lost}
use Rattle.model_setup.specs.declared.setup.PacketHead.{PacketHead}
use Rattle.model_setup.specs.declared.setup.PacketHead.TheVariants as heads
use Rattle.model_setup.specs.AudioHead.{head_of}
use Rattle.model_line.specs.Decode.{Kind, missing, skipped, decoded, LinkEntry}
use Rattle.model_line.specs.Origins.{entries_of, number_after, number_behind}
use Rattle.model_synthesis.specs.Tables.{ConstantTables}
use Rattle.model_line.specs.Acceptance.{FilmLink, no_fields, no_setup}
use Rattle.model_line.specs.PacketRows.{BlockPacket, block_flags, rows_of, sized_links, block_by_head, block_packet, link_block_packets, block_packets_from}
use Rattle.model_line.proofs.BlockPackets.{link_behind}
use Rattle.model_block.specs.FilmBlocks.{block_in_link, block_of_packet, film_block}
use Rattle.film_blocks.specs.declared.held.HeldLink.{HeldLink}
use Rattle.film_blocks.specs.Held.{link_in, links_in}
use Rattle.film_blocks.specs.Ends.{ends_from, first_behind, EndBefore}
use Rattle.film_blocks.specs.KeyedBlocks.{link_of_block, link_block}

-- ---- the packets of a link have its number

abbrev IsOf : ℕ → BlockPacket → Type 0
IsOf number b = b.link ≡ number

of_head : (number : ℕ) (bytes : List ℕ) (head : PacketHead) → All (IsOf number) (block_by_head number bytes head)
of_head number bytes heads.Skip = All-nil (IsOf number)
of_head number bytes heads.Bad = All-nil (IsOf number)
of_head number bytes (heads.Block mode prev next) = All-cons (IsOf number) (record { link = number; bytes = bytes }) [] refl (All-nil (IsOf number))

of_entry : (number : ℕ) (flags : List Bool) (item : StreamItem) → All (IsOf number) (block_packet number flags item)
of_entry number flags (packet bytes mark) = of_head number bytes (head_of flags bytes)
of_entry number flags lost = All-nil (IsOf number)

of_entries : (number : ℕ) (flags : List Bool) (items : List StreamItem) → All (IsOf number) (flat_map (block_packet number flags) items)
of_entries number flags [] = All-nil (IsOf number)
of_entries number flags (x ∷ xs) = All-append (IsOf number) (block_packet number flags x) (flat_map (block_packet number flags) xs) (of_entry number flags x) (of_entries number flags xs)

of_link : (number : ℕ) (link : FilmLink) → All (IsOf number) (link_block_packets number link)
unfolding link_block_packets
of_link number link = of_entries number (block_flags link.setup) link.entries

-- ---- a place among two lists

slice_get-front : {X : Type 0} (xs ys : List X) (k : ℕ) → k < length xs → slice_get (xs ++ ys) k ≡ slice_get xs k
slice_get-front [] ys k lt = absurd (omega (arith, lt))
slice_get-front (x ∷ xs) ys zero lt = refl
slice_get-front (x ∷ xs) ys (suc k) lt = slice_get-front xs ys k (omega (arith, lt))

slice_get-behind : {X : Type 0} (xs ys : List X) (k : ℕ) → slice_get (xs ++ ys) (length xs + k) ≡ slice_get ys k
slice_get-behind [] ys k = let e : 0 + k ≡ k = omega arith in rw e refl
slice_get-behind (x ∷ xs) ys k = let e : suc (length xs) + k ≡ suc (length xs + k) = omega arith in rw e (slice_get-behind xs ys k)

-- ---- the link of a block

first_step : (n end count : ℕ) (ends : List ℕ) → first_behind n (end ∷ ends) (suc count) ≡ first_behind end ends count
first_step n end zero ends = refl
first_step n end (suc count) ends = refl

-- the number of the first block of a link, where the first of them all has this number
abbrev first_in : ℕ → List FilmLink → ℕ → ℕ
first_in n links count = first_behind n (ends_from n (sized_links links)) count

-- packet k of those of these links is one of the link at this place
record IsIn (i n k at count : ℕ) (links : List FilmLink) (d : FilmLink) : Type 0 where
  within : count < length links
  behind : first_in n links count ≤ at
  few : at - first_in n links count < length (link_block_packets (i + count) (get_or links count d))
  same : slice_get (block_packets_from i links) k ≡ slice_get (link_block_packets (i + count) (get_or links count d)) (at - first_in n links count)

link_found : (i n k at count : ℕ) (links : List FilmLink) (d : FilmLink) → at ≡ n + k → EndBefore at count (ends_from n (sized_links links)) → k < length (block_packets_from i links) → IsIn i n k at count links d
unfolding ends_from block_packets_from
link_found i n k at count [] d at-is h lt = absurd (omega (arith, lt))
link_found i n k at zero (link ∷ links) d at-is h lt =
    let mine = link_block_packets i link in
    let behind = h.behind 0 0 (omega arith) (omega arith) in
    let few : k < length mine = omega (arith, behind, link_behind n i link) in
    let first : i + 0 ≡ i = omega arith in
    let place : at - n ≡ k = omega arith in
    record {
      within = omega arith;
      behind = omega arith;
      few = rw (first, place) few;
      same = rw (first, place) (slice_get-front mine (block_packets_from (i + 1) links) k few);
    }
link_found i n k at (suc count) (link ∷ links) d at-is h lt =
    let mine = link_block_packets i link in
    let others = block_packets_from (i + 1) links in
    let end = number_behind n (entries_of (rows_of link)) in
    let before = h.before 0 0 (omega arith) (omega arith) in
    let counted = link_behind n i link in
    let rest = k - length mine in
    let place : k ≡ length mine + rest = omega (arith, before, counted) in
    let at-is' : at ≡ end + rest = omega (arith, before, counted) in
    let few : rest < length others = omega (arith, before, counted, length-append mine others) in
    let h' : EndBefore at count (ends_from end (sized_links links)) = record {
      before = λ j d low high. h.before (suc j) d (omega arith) (omega (arith, high));
      behind = λ j d low high. h.behind (suc j) d (omega (arith, low)) (omega (arith, high));
    } in
    let it = link_found (i + 1) end rest at count links d at-is' h' few in
    let step = first_step n end count (ends_from end (sized_links links)) in
    let number : i + suc count ≡ i + 1 + count = omega arith in
    record {
      within = omega (arith, it.within);
      behind = rw step it.behind;
      few = rw (step, number) it.few;
      same = rw (step, number) (ap (slice_get (mine ++ others)) place ∙ slice_get-behind mine others rest ∙ it.same);
    }

-- block k of a film is a block of its link
pub record BlockIn (k count : ℕ) (links : List FilmLink) (link : FilmLink) : Type 0 where
  pub at : slice_get links count ≡ Some link
  pub few : k - first_in 0 links count < length (link_block_packets count link)
  pub same : slice_get (block_packets_from 0 links) k ≡ slice_get (link_block_packets count link) (k - first_in 0 links count)

pub block_in : (k count : ℕ) (links : List FilmLink) (link : FilmLink) → slice_get links count ≡ Some link → EndBefore k count (ends_from 0 (sized_links links)) → k < length (block_packets_from 0 links) → BlockIn k count links link
block_in k count links link at h lt =
    let it = link_found 0 0 k k count links link (omega arith) h lt in
    let is : get_or links count link ≡ link = get_or_from_slice_get links count link link at in
    let number : 0 + count ≡ count = omega arith in
    record {
      at = at;
      few = rw (number, is) at it.few;
      same = rw (number, is) at it.same;
    }

-- stands for a link where there is none
no_link : FilmLink
no_link = record {
  counts = record { serial = 0; pages = 0; packets = 0; lost = 0 };
  ident = no_fields;
  setup = no_setup;
  entries = [];
}

pub link_within : (k count : ℕ) (links : List FilmLink) → EndBefore k count (ends_from 0 (sized_links links)) → k < length (block_packets_from 0 links) → count < length links
link_within k count links h lt = (link_found 0 0 k k count links no_link (omega arith) h lt).within

pub first_within : (k count : ℕ) (links : List FilmLink) → EndBefore k count (ends_from 0 (sized_links links)) → k < length (block_packets_from 0 links) → first_in 0 links count ≤ k
first_within k count links h lt = (link_found 0 0 k k count links no_link (omega arith) h lt).behind

-- ---- a block by its link

-- a packet of a link, and its bytes
record PacketIn (count : ℕ) (packets : List BlockPacket) (j : ℕ) : Type 0 where
  bytes : List ℕ
  at : slice_get packets j ≡ Some (record { link = count; bytes = bytes })

packet_in : (count : ℕ) (link : FilmLink) (j : ℕ) → j < length (link_block_packets count link) → PacketIn count (link_block_packets count link) j
packet_in count link j lt =
    let packets = link_block_packets count link in
    let d : BlockPacket = record { link = count; bytes = [] } in
    let it = get_or packets j d in
    let number : it.link ≡ count = of_link count link j d lt in
    record {
      bytes = it.bytes;
      at = slice_get-get_or packets j d lt ∙ ap (λ (n : ℕ). Some (record { link = n; bytes = it.bytes })) number;
    }

pub link_is : (k count : ℕ) (links : List FilmLink) (link : FilmLink) → BlockIn k count links link → link_of_block links k ≡ count
unfolding link_of_block
link_is k count links link h =
    let packet = packet_in count link (k - first_in 0 links count) h.few in
    ap (λ (found : Option BlockPacket). option_map_or (λ (p : BlockPacket). p.link) found 0) (h.same ∙ packet.at)

pub found_link : (k count : ℕ) (links : List FilmLink) → EndBefore k count (ends_from 0 (sized_links links)) → k < length (block_packets_from 0 links) → link_of_block links k ≡ count
found_link k count links h lt =
    let link = get_or links count no_link in
    link_is k count links link (block_in k count links link (slice_get-get_or links count no_link (link_within k count links h lt)) h lt)

pub block_is : (tables : ConstantTables) (k count : ℕ) (links : List FilmLink) (link : FilmLink) → BlockIn k count links link → film_block tables links k ≡ link_block tables count link (k - first_in 0 links count)
unfolding film_block link_block
block_is tables k count links link h =
    let packet = packet_in count link (k - first_in 0 links count) h.few in
    ap (λ (found : Option BlockPacket). option_map_or (block_of_packet tables links) found []) (h.same ∙ packet.at)
    ∙ ap (λ (found : Option FilmLink). option_map_or (λ (l : FilmLink). block_in_link tables l packet.bytes) found []) h.at
    ∙ ap (λ (found : Option BlockPacket). option_map_or (λ (p : BlockPacket). block_in_link tables link p.bytes) found []) (sym packet.at)

-- ---- ends never fall

after_grows : (n : ℕ) (kind : Kind ℕ) → n ≤ number_after n kind
after_grows n (missing kind) = omega arith
after_grows n skipped = omega arith
after_grows n (decoded b) = omega arith

behind_grows : (n : ℕ) (es : List (LinkEntry ℕ)) → n ≤ number_behind n es
unfolding number_behind
behind_grows n [] = omega arith
behind_grows n (e ∷ es) = omega (arith, after_grows n e.kind, behind_grows (number_after n e.kind) es)

from_start : (n : ℕ) (links : List (List (LinkEntry ℕ))) (j d : ℕ) → j < length (ends_from n links) → n ≤ get_or (ends_from n links) j d
unfolding ends_from
from_start n [] j d lt = absurd (omega (arith, lt))
from_start n (es ∷ links) zero d lt = behind_grows n es
from_start n (es ∷ links) (suc j) d lt = omega (arith, behind_grows n es, from_start (number_behind n es) links j d (omega (arith, lt)))

pub ends_rise : (n : ℕ) (links : List (List (LinkEntry ℕ))) → IsNonDecreasingBy (λ (end : ℕ). end) (ends_from n links)
unfolding ends_from
ends_rise n [] i j d le lt = absurd (omega (arith, lt))
ends_rise n (es ∷ links) zero zero d le lt = omega arith
ends_rise n (es ∷ links) zero (suc j) d le lt = from_start (number_behind n es) links j d (omega (arith, lt))
ends_rise n (es ∷ links) (suc i) zero d le lt = absurd (omega (arith, le))
ends_rise n (es ∷ links) (suc i) (suc j) d le lt = ends_rise (number_behind n es) links i j d (omega (arith, le)) (omega (arith, lt))

-- ---- the links before a block, found by halves

below : (a b : ℕ) → leb a b ≡ true → a ≤ b
below a b h = grind (arith, h)

above : (a b : ℕ) → leb a b ≡ false → b < a
above a b h = grind (arith, h)

pub end_before : (at count : ℕ) (ends : List ℕ) → IsPartitionPoint (λ (end : ℕ). leb end at ≡ true) (λ (end : ℕ). leb end at ≡ false) ends count → EndBefore at count ends
end_before at count ends point = record {
  before = λ k d low high. below (get_or ends k d) at (point.0 k d low high);
  behind = λ k d low high. above (get_or ends k d) at (point.1 k d low high);
}

length-ends : (n : ℕ) (links : List (List (LinkEntry ℕ))) → length (ends_from n links) ≡ length links
unfolding ends_from
length-ends n [] = refl
length-ends n (es ∷ links) = ap suc (length-ends (number_behind n es) links)

-- there are as many ends as links
pub ends_len : (bytes : List ℕ) (held : List HeldLink) → length (ends_from 0 (sized_links (links_in bytes held))) ≡ length held
ends_len bytes held =
    length-ends 0 (sized_links (links_in bytes held)) ∙ length-map (map rows_of (links_in bytes held)) entries_of ∙ length-map (links_in bytes held) rows_of ∙ length-map held (link_in bytes)
