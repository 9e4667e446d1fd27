-- A block by its number is one of the link that its number says.
use Rattle.std.proofs.Common.{◌≡◌, ◌≤◌, ◌<◌, ℕ, zero, suc, ◌+◌, ◌-◌, ℤ, Bool, true, false, List, [], ◌∷◌, ◌++◌, length, get_or, Option, Some, inl, inr, refl, sym, ap, subst, ◌∙◌, arith, length-append, append_assoc}
use Rattle.std.specs.Prelude.{slice_index_or}
use Rattle.std.specs.List.{All, flat_map, slice_get}
use Rattle.std.proofs.lemmas.Bool.{cases_lt, lt-ltb, le-ltb}
use Rattle.std.proofs.lemmas.List.{get_or_append_left}
use Rattle.std.proofs.lemmas.List.Elements.{All-nil, All-cons, All-head, All-tail, All-append, All-get_or}
use Rattle.std.proofs.lemmas.Option.{slice_get-get_or}
use Rattle.model_ogg.specs.Entries.{StreamItem, packet, lost}
use Rattle.model_setup.specs.declared.setup.PacketHead.{PacketHead}
use Rattle.model_setup.specs.declared.setup.PacketHead.TheVariants as heads
use Rattle.model_setup.specs.HeaderPackets.{IsBlockSize}
use Rattle.model_setup.specs.AudioHead.{head_of}
use Rattle.model_synthesis.specs.Tables.{ConstantTables}
use Rattle.model_line.specs.Origins.{size_of, entries_of, number_behind}
use Rattle.model_line.specs.Acceptance.{FilmLink}
use Rattle.model_line.specs.PacketRows.{block_flags, rows_of, sized_links, BlockPacket, block_by_head, block_packet, link_block_packets, block_packets_from, block_packets}
use Rattle.model_line.specs.Laws.{block_link}
use Rattle.model_line.proofs.BlockPackets.{link_behind}
use Rattle.model_block.specs.FilmBlocks.{block_in_link, block_of_packet, film_block}
use Rattle.model_film.specs.Links.{IsLink}
use Rattle.model_film.proofs.ResidueSizes.{AreSized}
use Rattle.model_film.proofs.BlockSizes.{block_sized}

-- ---- the packets of a link's blocks

-- a packet of the link of this number that names a block
pub record IsPacketOf (number : ℕ) (flags : List Bool) (p : BlockPacket) : Type 0 where
  pub link : p.link ≡ number
  pub mode : ℕ
  pub previous : Bool
  pub next : Bool
  pub head : head_of flags p.bytes ≡ heads.Block mode previous next

head_packets : (number : ℕ) (flags : List Bool) (bytes : List ℕ) (head : PacketHead) → head_of flags bytes ≡ head → All (IsPacketOf number flags) (block_by_head number bytes head)
head_packets number flags bytes heads.Skip e = All-nil (IsPacketOf number flags)
head_packets number flags bytes heads.Bad e = All-nil (IsPacketOf number flags)
head_packets number flags bytes (heads.Block mode previous next) e =
    All-cons (IsPacketOf number flags) (record { link = number; bytes = bytes }) []
    (record { link = refl; mode = mode; previous = previous; next = next; head = e })
    (All-nil (IsPacketOf number flags))

entry_packets : (number : ℕ) (flags : List Bool) (entry : StreamItem) → All (IsPacketOf number flags) (block_packet number flags entry)
entry_packets number flags (packet bytes mark) = head_packets number flags bytes (head_of flags bytes) refl
entry_packets number flags lost = All-nil (IsPacketOf number flags)

entries_packets : (number : ℕ) (flags : List Bool) (entries : List StreamItem) → All (IsPacketOf number flags) (flat_map (block_packet number flags) entries)
entries_packets number flags [] = All-nil (IsPacketOf number flags)
entries_packets number flags (entry ∷ entries) =
    All-append (IsPacketOf number flags) (block_packet number flags entry) (flat_map (block_packet number flags) entries) (entry_packets number flags entry) (entries_packets number flags entries)

link_packets : (number : ℕ) (link : FilmLink) → All (IsPacketOf number (block_flags link.setup)) (link_block_packets number link)
unfolding link_block_packets
link_packets number link = entries_packets number (block_flags link.setup) link.entries

-- ---- the packet of a block, by its number

item_at : {X : Type 0} (before : List X) (x : X) (after : List X) → slice_get (before ++ (x ∷ after)) (length before) ≡ Some x
item_at [] x after = refl
item_at (y ∷ before) x after = item_at before x after

get_behind : {X : Type 0} (xs ys : List X) (i : ℕ) → length xs ≤ i → slice_get (xs ++ ys) i ≡ slice_get ys (i - length xs)
get_behind [] ys i le = let e : i - 0 ≡ i = omega arith in rw e refl
get_behind (x ∷ xs) ys zero le = absurd (omega (arith, le))
get_behind (x ∷ xs) ys (suc i) le =
    let e : suc i - suc (length xs) ≡ i - length xs = omega arith in
    rw e (get_behind xs ys i (omega (arith, le)))

no_packet : BlockPacket
no_packet = record { link = 0; bytes = [] }

-- where this is found, it is a packet of the link of this number
pub record IsOf (all : List FilmLink) (number : ℕ) (found : Option BlockPacket) : Type 0 where
  pub link : FilmLink
  pub there : slice_get all number ≡ Some link
  pub packet : BlockPacket
  pub found_is : found ≡ Some packet
  pub of_link : IsPacketOf number (block_flags link.setup) packet

packet_of : (all before links : List FilmLink) (number n k : ℕ) → number ≡ length before → all ≡ before ++ links → n ≤ k → k < n + length (block_packets_from number links)
    → IsOf all (block_link number n (sized_links links) k) (slice_get (block_packets_from number links) (k - n))
unfolding block_link block_packets_from
packet_of all before [] number n k number-is all-is le lt = absurd (omega (arith, le, lt))
packet_of all before (link ∷ links) number n k number-is all-is le lt =
    let here = link_block_packets number link in
    let rest = block_packets_from (number + 1) links in
    let behind : ℕ = number_behind n (entries_of (rows_of link)) in
    let behind-is : behind ≡ n + length here = link_behind n number link in
    let total = length-append here rest in
    elim (cases_lt k behind) [
      | inl low ↦
          let within : k - n < length here = omega (arith, low, behind-is, le) in
          let there : slice_get all number ≡ Some link = rw (all-is, number-is) (item_at before link links) in
          let found : slice_get (here ++ rest) (k - n) ≡ Some (get_or here (k - n) no_packet) =
          slice_get-get_or (here ++ rest) (k - n) no_packet (omega (arith, within, total)) ∙ ap Some (get_or_append_left here rest no_packet (k - n) within) in
          rw (lt-ltb k behind low) (record {
            link = link;
            there = there;
            packet = get_or here (k - n) no_packet;
            found_is = found;
            of_link = All-get_or (IsPacketOf number (block_flags link.setup)) here (k - n) no_packet within (link_packets number link);
          })
      | inr high ↦
          let e : k - n - length here ≡ k - behind = omega (arith, behind-is) in
          let found : slice_get (here ++ rest) (k - n) ≡ slice_get rest (k - behind) = get_behind here rest (k - n) (omega (arith, high, behind-is)) ∙ ap (slice_get rest) e in
          let more = packet_of all (before ++ (link ∷ [])) links (number + 1) behind k (omega (arith, number-is, length-append before (link ∷ []))) (all-is ∙ sym (append_assoc before (link ∷ []) links)) high (omega (arith, lt, total, behind-is)) in
          rw (le-ltb k behind high, found) more
    ]

-- ---- the block of a number

size_right : (short long : ℕ) (is_long : Bool) → IsBlockSize short → IsBlockSize long → IsBlockSize (size_of short long is_long)
size_right short long true is_short of_long = of_long
size_right short long false is_short of_long = is_short

pub All-some : {X : Type 0} (P : X → Type 0) (xs : List X) (i : ℕ) (x : X) → slice_get xs i ≡ Some x → All P xs → P x
All-some P [] i x e all = cc
All-some P (y ∷ xs) zero x e all = let same : y ≡ x = grind (arith, e) in subst P same (All-head P y xs all)
All-some P (y ∷ xs) (suc i) x e all = All-some P xs i x e (All-tail P y xs all)

-- a block of a link, of a right size
pub record IsBlockOf (link : FilmLink) (block : List (List ℤ)) : Type 0 where
  pub size : ℕ
  pub right : IsBlockSize size
  pub sized : AreSized link.ident.channels size block

module _ (tables : ConstantTables) (links : List FilmLink) where
  packet_block_is : (number : ℕ) (link : FilmLink) (p : BlockPacket) → slice_get links number ≡ Some link → p.link ≡ number → block_of_packet tables links p ≡ block_in_link tables link p.bytes
  packet_block_is number link p there is = rw (is, there) refl

  -- a block of the film, of the link that its number says
  pub block_of : (are : All IsLink links) (k : ℕ) → k < length (block_packets links) → (link : FilmLink) × (slice_get links (block_link 0 0 (sized_links links) k) ≡ Some link) × IsBlockOf link (film_block tables links k)
  unfolding film_block
  block_of are k lt =
      let of = packet_of links [] links 0 0 k refl refl (omega arith) (omega (arith, lt)) in
      let found : slice_get (block_packets links) k ≡ Some of.packet = (let e : k ≡ k - 0 = omega arith in ap (slice_get (block_packets links)) e) ∙ of.found_is in
      let is : IsLink of.link = All-some IsLink links (block_link 0 0 (sized_links links) k) of.link of.there are in
      let long = slice_index_or (block_flags of.link.setup) of.of_link.mode false in
      let block : IsBlockOf of.link (block_in_link tables of.link of.packet.bytes) = record {
        size = size_of of.link.ident.short of.link.ident.long long;
        right = size_right of.link.ident.short of.link.ident.long long is.short is.long;
        sized = block_sized tables of.link of.packet.bytes of.of_link.mode of.of_link.previous of.of_link.next is of.of_link.head;
      } in (
        of.link,
        of.there,
        rw (found) (subst (IsBlockOf of.link) (sym (packet_block_is (block_link 0 0 (sized_links links) k) of.link of.packet of.there of.of_link.link)) block),
      )
