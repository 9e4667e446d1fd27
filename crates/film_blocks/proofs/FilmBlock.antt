-- A block of a film that is open, by the link that is held.
use Rattle.std.proofs.Common.{◌≡◌, ℕ, ◌-◌, ◌<◌, List, length, get_or, Option, Some, option_map, sym, ap, ◌∙◌, arith}
use Rattle.std.specs.List.{All, slice_get}
use Rattle.std.specs.Option.{option_map_or}
use Rattle.std.proofs.lemmas.List.{length-map}
use Rattle.model_setup.specs.SetupPacket.{SetupFields}
use Rattle.model_line.specs.Acceptance.{FilmLink}
use Rattle.model_line.specs.PacketRows.{sized_links, link_block_packets, block_packets_from}
use Rattle.film_blocks.specs.declared.held.HeldLink.{HeldLink}
use Rattle.film_blocks.specs.Ends.{ends_from, first_behind, EndBefore}
use Rattle.film_blocks.specs.Held.{link_in, links_in, IsHeld}
use Rattle.film_blocks.specs.KeyedBlocks.{link_of_block, channels_of_block}
use Rattle.film_blocks.proofs.HeldLinks.{link_at}
use Rattle.film_blocks.proofs.BlockPlaces.{as_many}
use Rattle.film_blocks.proofs.BlockLinks.{BlockIn, block_in, found_link, link_within}

-- block k of the film of these bytes is in the link of this number
pub record IsInLink (bytes : List ℕ) (held : List HeldLink) (k count : ℕ) : Type 0 where
  pub ends : EndBefore k count (ends_from 0 (sized_links (links_in bytes held)))
  pub there : k < length (block_packets_from 0 (links_in bytes held))

pub link_there : (bytes : List ℕ) (held : List HeldLink) (k count : ℕ) → IsInLink bytes held k count → count < length held
link_there bytes held k count h = omega (arith, link_within k count (links_in bytes held) h.ends h.there, length-map held (link_in bytes))

pub block_there : (bytes : List ℕ) (held : List HeldLink) (k count : ℕ) (link : HeldLink) → IsInLink bytes held k count → link ≡ get_or held count link → BlockIn k count (links_in bytes held) (link_in bytes link)
block_there bytes held k count link h is = block_in k count (links_in bytes held) (link_in bytes link) (link_at bytes held count link (link_there bytes held k count h) is) h.ends h.there

pub held_there : (bytes : List ℕ) (held : List HeldLink) (k count : ℕ) (link : HeldLink) → IsInLink bytes held k count → link ≡ get_or held count link → All (IsHeld bytes) held → IsHeld bytes link
held_there bytes held k count link h is all = rw (← is) at (all count link (link_there bytes held k count h))

same_setup : (setup other : SetupFields) → Some setup ≡ Some other → setup ≡ other
same_setup setup other e = cc

abbrev channels_in : Option FilmLink → ℕ
channels_in link = option_map_or (λ (l : FilmLink). l.ident.channels) link 0

abbrev setup_in : Option FilmLink → Option SetupFields
setup_in link = option_map (λ (l : FilmLink). l.setup) link

pub setup_there : (bytes : List ℕ) (held : List HeldLink) (k count : ℕ) (link : HeldLink) (setup : SetupFields) → IsInLink bytes held k count → link ≡ get_or held count link
    → option_map (λ (l : FilmLink). l.setup) (slice_get (links_in bytes held) (link_of_block (links_in bytes held) k)) ≡ Some setup → (link_in bytes link).setup ≡ setup
setup_there bytes held k count link setup h is said =
    let links = links_in bytes held in
    let number = found_link k count links h.ends h.there in
    let at = link_at bytes held count link (link_there bytes held k count h) is in
    same_setup (link_in bytes link).setup setup (ap setup_in (sym at) ∙ ap (λ (n : ℕ). setup_in (slice_get links n)) (sym number) ∙ said)

pub few_there : (bytes : List ℕ) (held : List HeldLink) (k count : ℕ) (link : HeldLink) → IsInLink bytes held k count → link ≡ get_or held count link
    → k - first_behind 0 (ends_from 0 (sized_links (links_in bytes held))) count < length (link_block_packets 0 (link_in bytes link))
few_there bytes held k count link h is = omega (arith, (block_there bytes held k count link h is).few, as_many count 0 (link_in bytes link))

pub channels_there : (bytes : List ℕ) (held : List HeldLink) (k count : ℕ) (link : HeldLink) → IsInLink bytes held k count → link ≡ get_or held count link → All (IsHeld bytes) held
    → channels_of_block (links_in bytes held) k ≡ link.channels
channels_there bytes held k count link h is all =
    let links = links_in bytes held in
    let number = found_link k count links h.ends h.there in
    let at = link_at bytes held count link (link_there bytes held k count h) is in
    ap (λ (n : ℕ). channels_in (slice_get links n)) number ∙ ap channels_in at ∙ sym (held_there bytes held k count link h is all).channels
