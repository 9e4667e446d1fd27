-- A block of a link is found at its place among the link's entries.
use Rattle.std.proofs.Common.{◌≡◌, ℕ, zero, suc, ◌+◌, ◌<◌, Bool, List, [], ◌∷◌, length, map, drop, get_or, Option, Some, None, option_map, refl, sym, ap, ◌∙◌, arith}
use Rattle.std.specs.List.{slice_get, flat_map}
use Rattle.std.proofs.lemmas.List.{length-map}
use Rattle.std.proofs.lemmas.Option.{slice_get-map, slice_get_read, slice_get_within}
use Rattle.model_ogg.specs.declared.page.Mark.{Mark}
use Rattle.model_ogg.specs.Entries.{StreamItem, packet, lost}
use Rattle.model_setup.specs.declared.setup.PacketHead.{PacketHead}
use Rattle.model_setup.specs.declared.setup.PacketHead.TheVariants as heads
use Rattle.model_setup.specs.AudioHead.{head_of}
use Rattle.model_line.specs.Acceptance.{FilmLink, link_with}
use Rattle.model_line.specs.PacketRows.{BlockPacket, block_flags, row_of, rows_by, block_packet, link_block_packets}
use Rattle.model_line.proofs.BlockPackets.{link_behind}
use Rattle.ogg_packets.specs.declared.entry.Entry.{Entry}
use Rattle.ogg_packets.specs.declared.entry.Entry.TheVariants.{Packet, Lost}
use Rattle.ogg_packets.specs.Pieces.{joined}
use Rattle.ogg_packets.specs.Entries.{item_of, items_of, packet_in}
use Rattle.block_decoding.specs.Setups.{IsBlockHead}
use Rattle.film_blocks.specs.declared.held.HeldLink.{HeldLink}
use Rattle.film_blocks.specs.declared.places.TheConstants.{HEADER_COUNT}
use Rattle.film_blocks.specs.Held.{link_in, IsHeld}
use Rattle.film_blocks.specs.Places.{block_places}

-- ---- among the entries behind the headers

abbrev places_in : ℕ → List Bool → List StreamItem → List ℕ
places_in first flags items = block_places first (map (row_of flags) items)

abbrev packets_in : ℕ → List Bool → List StreamItem → List BlockPacket
packets_in number flags items = flat_map (block_packet number flags) items

-- block j of these entries is the packet at this place
record IsAt (number first : ℕ) (flags : List Bool) (items : List StreamItem) (j : ℕ) : Type 0 where
  place : ℕ
  bytes : List ℕ
  mark : Option Mark
  at : slice_get (places_in first flags items) j ≡ Some (first + place)
  entry : slice_get items place ≡ Some (packet bytes mark)
  block : slice_get (packets_in number flags items) j ≡ Some (record { link = number; bytes = bytes })
  head : IsBlockHead (head_of flags bytes)

-- behind an entry that is no block, and behind one that is
behind_none : (number first : ℕ) (flags : List Bool) (item : StreamItem) (items : List StreamItem) (j : ℕ) → places_in first flags (item ∷ items) ≡ places_in (first + 1) flags items
    → packets_in number flags (item ∷ items) ≡ packets_in number flags items → IsAt number (first + 1) flags items j → IsAt number first flags (item ∷ items) j
behind_none number first flags item items j places packets found = record {
  place = suc found.place;
  bytes = found.bytes;
  mark = found.mark;
  at = ap (λ (xs : List ℕ). slice_get xs j) places ∙ found.at ∙ ap Some (omega arith);
  entry = found.entry;
  block = ap (λ (xs : List BlockPacket). slice_get xs j) packets ∙ found.block;
  head = found.head;
}

behind_block : (number first : ℕ) (flags : List Bool) (bytes : List ℕ) (item : StreamItem) (items : List StreamItem) (j : ℕ) → places_in first flags (item ∷ items) ≡ first ∷ places_in (first + 1) flags items
    → packets_in number flags (item ∷ items) ≡ record { link = number; bytes = bytes } ∷ packets_in number flags items → IsAt number (first + 1) flags items j → IsAt number first flags (item ∷ items) (suc j)
behind_block number first flags bytes item items j places packets found = record {
  place = suc found.place;
  bytes = found.bytes;
  mark = found.mark;
  at = ap (λ (xs : List ℕ). slice_get xs (suc j)) places ∙ found.at ∙ ap Some (omega arith);
  entry = found.entry;
  block = ap (λ (xs : List BlockPacket). slice_get xs (suc j)) packets ∙ found.block;
  head = found.head;
}

abbrev IsFound : ℕ → ℕ → List Bool → List StreamItem → Type 0
IsFound number first flags items = (j : ℕ) → j < length (packets_in number flags items) → IsAt number first flags items j

by_head : (number first : ℕ) (flags : List Bool) (bytes : List ℕ) (mark : Option Mark) (items : List StreamItem) (head : PacketHead) → head_of flags bytes ≡ head → IsFound number (first + 1) flags items
    → IsFound number first flags (packet bytes mark ∷ items)
unfolding block_places
by_head number first flags bytes mark items heads.Skip is others j lt =
    let few : j < length (packets_in number flags items) = rw is at lt in
    behind_none number first flags (packet bytes mark) items j (rw is refl) (rw is refl) (others j few)
by_head number first flags bytes mark items heads.Bad is others j lt =
    let few : j < length (packets_in number flags items) = rw is at lt in
    behind_none number first flags (packet bytes mark) items j (rw is refl) (rw is refl) (others j few)
by_head number first flags bytes mark items (heads.Block mode prev next) is others zero lt = record {
  place = zero;
  bytes = bytes;
  mark = mark;
  at = rw is (ap Some (omega arith));
  entry = refl;
  block = rw is refl;
  head = rw is tt;
}
by_head number first flags bytes mark items (heads.Block mode prev next) is others (suc j) lt =
    let more : suc j < length (record { link = number; bytes = bytes } ∷ packets_in number flags items) = rw is at lt in
    behind_block number first flags bytes (packet bytes mark) items j (rw is refl) (rw is refl) (others j (omega (arith, more)))

found : (number first : ℕ) (flags : List Bool) (items : List StreamItem) → IsFound number first flags items
unfolding block_places
found number first flags [] j lt = absurd (omega (arith, lt))
found number first flags (packet bytes mark ∷ items) j lt = by_head number first flags bytes mark items (head_of flags bytes) refl (found number (first + 1) flags items) j lt
found number first flags (lost ∷ items) j lt = behind_none number first flags lost items j refl refl (found number (first + 1) flags items j lt)

-- ---- among all entries of a link

slice_get-drop : {X : Type 0} (n : ℕ) (xs : List X) (i : ℕ) → slice_get (drop n xs) i ≡ slice_get xs (n + i)
slice_get-drop zero xs i = let e : 0 + i ≡ i = omega arith in rw e refl
slice_get-drop (suc n) [] i = refl
slice_get-drop (suc n) (x ∷ xs) i = let e : suc n + i ≡ suc (n + i) = omega arith in rw e (slice_get-drop n xs i)

-- block j of a link that is held is the packet of the entry at this place
pub record BlockAt (number : ℕ) (bytes : List ℕ) (held : HeldLink) (j : ℕ) : Type 0 where
  pub place : ℕ
  pub packet_bytes : List ℕ
  pub mark : Option Mark
  pub at : slice_get held.blocks.items j ≡ Some place
  pub entry : slice_get (items_of bytes held.entries.items) place ≡ Some (packet packet_bytes mark)
  pub block : slice_get (link_block_packets number (link_in bytes held)) j ≡ Some (record { link = number; bytes = packet_bytes })
  pub head : IsBlockHead (head_of (block_flags (link_in bytes held).setup) packet_bytes)

-- how many blocks a link has does not depend on its number
pub as_many : (number other : ℕ) (link : FilmLink) → length (link_block_packets number link) ≡ length (link_block_packets other link)
as_many number other link = omega (arith, link_behind 0 number link, link_behind 0 other link)

pub block_is_at : (number : ℕ) (bytes : List ℕ) (held : HeldLink) (j : ℕ) → IsHeld bytes held → j < length (link_block_packets 0 (link_in bytes held)) → BlockAt number bytes held j
unfolding link_with rows_by link_block_packets
block_is_at number bytes held j h lt =
    let link = link_in bytes held in
    let flags = block_flags link.setup in
    let few : j < length (packets_in number flags link.entries) = omega (arith, lt, as_many number 0 link) in
    let it = found number HEADER_COUNT flags link.entries j few in
    record {
      place = HEADER_COUNT + it.place;
      packet_bytes = it.bytes;
      mark = it.mark;
      at = ap (λ (xs : List ℕ). slice_get xs j) h.blocks ∙ it.at;
      entry = sym (slice_get-drop HEADER_COUNT (items_of bytes held.entries.items) it.place) ∙ it.entry;
      block = it.block;
      head = it.head;
    }

-- ---- what the program reads there

same_place : (place other : ℕ) → Some place ≡ Some other → place ≡ other
same_place place other e = cc

pub place_is : (places : List ℕ) (j place other : ℕ) → j < length places → place ≡ get_or places j place → slice_get places j ≡ Some other → place ≡ other
place_is places j place other lt is at = same_place place other (sym (slice_get_read places (length places) j place refl lt is) ∙ at)

pub places_there : (number : ℕ) (bytes : List ℕ) (held : HeldLink) (j : ℕ) → BlockAt number bytes held j → j < length held.blocks.items
places_there number bytes held j it = slice_get_within held.blocks.items j it.place it.at

pub entry_there : (number : ℕ) (bytes : List ℕ) (held : HeldLink) (j place : ℕ) → (it : BlockAt number bytes held j) → place ≡ it.place → place < length held.entries.items
entry_there number bytes held j place it is =
    omega (arith, is, slice_get_within (items_of bytes held.entries.items) it.place (packet it.packet_bytes it.mark) it.entry, length-map held.entries.items (item_of bytes))

same_item : (item other : StreamItem) → Some item ≡ Some other → item ≡ other
same_item item other e = cc

entry_is : (bytes : List ℕ) (es : List Entry) (place : ℕ) (e : Entry) (item : StreamItem) → place < length es → e ≡ get_or es place e → slice_get (items_of bytes es) place ≡ Some item → item_of bytes e ≡ item
entry_is bytes es place e item lt is at =
    same_item (item_of bytes e) item (sym (slice_get-map (item_of bytes) es place ∙ ap (option_map (item_of bytes)) (slice_get_read es (length es) place e refl lt is)) ∙ at)

-- what an entry says of a packet's bytes, where it stands for this packet
packet_by_item : (bytes found : List ℕ) (mark : Option Mark) (e : Entry) → item_of bytes e ≡ packet found mark → packet_in bytes e ≡ Some found
packet_by_item bytes found mark (Packet pieces other) is = let same : joined bytes pieces ≡ found = cc in ap Some same
packet_by_item bytes found mark Lost is = absurd (cc)

-- the entry there is the block's packet
pub packet_there : (number : ℕ) (bytes : List ℕ) (held : HeldLink) (j place : ℕ) (e : Entry) → (it : BlockAt number bytes held j) → place ≡ it.place → e ≡ get_or held.entries.items place e → packet_in bytes e ≡ Some it.packet_bytes
packet_there number bytes held j place e it same is =
    let there = entry_there number bytes held j place it same in
    let entry = entry_is bytes held.entries.items place e (packet it.packet_bytes it.mark) there is (rw same it.entry) in
    packet_by_item bytes it.packet_bytes it.mark e entry

same_bytes : (found other : List ℕ) → Some found ≡ Some other → found ≡ other
same_bytes found other e = cc

-- so it is not missing, and has the packet's bytes
pub never_lost : (number : ℕ) (bytes : List ℕ) (held : HeldLink) (j : ℕ) (it : BlockAt number bytes held j) (answer : Option (List ℕ)) → answer ≡ Some it.packet_bytes → answer ≡ None → ⊥
never_lost number bytes held j it answer is gone = cc

pub bytes_are : (number : ℕ) (bytes : List ℕ) (held : HeldLink) (j : ℕ) (it : BlockAt number bytes held j) (found : List ℕ) (answer : Option (List ℕ)) → answer ≡ Some it.packet_bytes → Some found ≡ answer → found ≡ it.packet_bytes
bytes_are number bytes held j it found answer is there = same_bytes found it.packet_bytes (there ∙ is)
