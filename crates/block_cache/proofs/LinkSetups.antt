-- The link of a block is one of the film's, and the setup of each link is there.
use Rattle.std.proofs.Common.{◌≡◌, ℕ, zero, suc, ◌+◌, ◌<◌, ◌≤◌, Bool, List, [], ◌∷◌, length, Some, option_map, refl, sym, ap, ◌∙◌, arith}
use Rattle.std.specs.List.{All, slice_get, flat_map}
use Rattle.std.specs.Option.{option_map_or}
use Rattle.std.proofs.lemmas.List.Elements.{All-nil, All-cons, All-head, All-tail, All-append}
use Rattle.model_ogg.specs.Entries.{StreamItem, packet, lost}
use Rattle.model_setup.specs.declared.setup.PacketHead.{PacketHead}
use Rattle.model_setup.specs.declared.setup.PacketHead.TheVariants as heads
use Rattle.model_setup.specs.AudioHead.{head_of}
use Rattle.model_setup.specs.SetupPacket.{SetupFields}
use Rattle.model_line.specs.Acceptance.{FilmLink}
use Rattle.model_line.specs.PacketRows.{BlockPacket, block_flags, block_by_head, block_packet, link_block_packets, block_packets_from, block_packets}
use Rattle.film_blocks.specs.KeyedBlocks.{link_of_block}
use Rattle.block_cache.specs.FilmMeanings.{setup_of_link}

-- ---- the packets of blocks name links of the film

abbrev IsBelow : ℕ → BlockPacket → Type 0
IsBelow end p = p.link < end

module _ (number end : ℕ) (lt : number < end) where
  of_head : (bytes : List ℕ) (head : PacketHead) → All (IsBelow end) (block_by_head number bytes head)
  of_head bytes heads.Skip = All-nil (IsBelow end)
  of_head bytes heads.Bad = All-nil (IsBelow end)
  of_head bytes (heads.Block mode previous next) = All-cons (IsBelow end) (record { link = number; bytes = bytes }) [] lt (All-nil (IsBelow end))

  of_entry : (flags : List Bool) (item : StreamItem) → All (IsBelow end) (block_packet number flags item)
  of_entry flags (packet bytes mark) = of_head bytes (head_of flags bytes)
  of_entry flags lost = All-nil (IsBelow end)

  of_entries : (flags : List Bool) (items : List StreamItem) → All (IsBelow end) (flat_map (block_packet number flags) items)
  of_entries flags [] = All-nil (IsBelow end)
  of_entries flags (x ∷ xs) = All-append (IsBelow end) (block_packet number flags x) (flat_map (block_packet number flags) xs) (of_entry flags x) (of_entries flags xs)

  of_link : (link : FilmLink) → All (IsBelow end) (link_block_packets number link)
  unfolding link_block_packets
  of_link link = of_entries (block_flags link.setup) link.entries

of_links : (number end : ℕ) (links : List FilmLink) → number + length links ≤ end → All (IsBelow end) (block_packets_from number links)
unfolding block_packets_from
of_links number end [] le = All-nil (IsBelow end)
of_links number end (link ∷ links) le =
    All-append (IsBelow end) (link_block_packets number link) (block_packets_from (number + 1) links)
    (of_link number end (omega (arith, le)) link) (of_links (number + 1) end links (omega (arith, le)))

packet_at : (end : ℕ) (packets : List BlockPacket) (k : ℕ) → k < length packets → All (IsBelow end) packets → option_map_or (λ (p : BlockPacket). p.link) (slice_get packets k) 0 < end
packet_at end [] k lt all = absurd (omega (arith, lt))
packet_at end (p ∷ packets) zero lt all = All-head (IsBelow end) p packets all
packet_at end (p ∷ packets) (suc k) lt all = packet_at end packets k (omega (arith, lt)) (All-tail (IsBelow end) p packets all)

link_below : (links : List FilmLink) (k : ℕ) → k < length (block_packets links) → link_of_block links k < length links
unfolding link_of_block
link_below links k lt = packet_at (length links) (block_packets links) k lt (of_links 0 (length links) links (omega arith))

-- ---- the setups of links

setup_there : (links : List FilmLink) (l : ℕ) → l < length links → option_map (λ (link : FilmLink). link.setup) (slice_get links l) ≡ Some (setup_of_link links l)
setup_there [] l lt = absurd (omega (arith, lt))
setup_there (link ∷ links) zero lt = refl
setup_there (link ∷ links) (suc l) lt = setup_there links l (omega (arith, lt))

-- what a maker asks of the setup of a block is what decoding the block asks of it
pub setup_of_block : (links : List FilmLink) (k : ℕ) (setup : SetupFields) → k < length (block_packets links) → setup ≡ setup_of_link links (link_of_block links k)
    → option_map (λ (link : FilmLink). link.setup) (slice_get links (link_of_block links k)) ≡ Some setup
setup_of_block links k setup lt is = setup_there links (link_of_block links k) (link_below links k lt) ∙ ap Some (sym is)
