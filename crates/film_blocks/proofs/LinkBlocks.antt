-- The block of a link, by the bytes of its packet.
use Rattle.std.proofs.Common.{◌≡◌, ℕ, ◌<◌, List, [], length, get_or, Option, Some, sym, ap, ◌∙◌}
use Rattle.std.specs.List.{slice_get}
use Rattle.std.specs.Option.{option_map_or}
use Rattle.model_setup.specs.declared.head.IdentFields.{IdentFields}
use Rattle.model_setup.specs.SetupPacket.{SetupFields}
use Rattle.model_synthesis.specs.Tables.{ConstantTables}
use Rattle.model_line.specs.Acceptance.{FilmLink}
use Rattle.model_line.specs.PacketRows.{BlockPacket, link_block_packets}
use Rattle.model_block.specs.declared.sizes.BlockSizes.{BlockSizes}
use Rattle.model_block.specs.PacketBlocks.{packet_block}
use Rattle.model_block.specs.FilmBlocks.{sizes_in, block_in_link}
use Rattle.ogg_packets.specs.declared.entry.Entry.{Entry}
use Rattle.ogg_packets.specs.Entries.{EntryLiesBefore}
use Rattle.film_blocks.specs.declared.held.HeldLink.{HeldLink}
use Rattle.film_blocks.specs.Held.{link_in, IsHeld}
use Rattle.film_blocks.specs.KeyedBlocks.{link_block}
use Rattle.film_blocks.proofs.HeldPieces.{entries_lie}
use Rattle.film_blocks.proofs.BlockPlaces.{BlockAt}

pub entry_in_place : (bytes : List ℕ) (held : HeldLink) (place : ℕ) (e : Entry) → IsHeld bytes held → place < length held.entries.items → e ≡ get_or held.entries.items place e → EntryLiesBefore (length bytes) e
entry_in_place bytes held place e h lt is =
    let lie = entries_lie (length bytes) held.entries.items h.lies place e lt in
    rw (← is) at lie

same_sizes : (sizes : BlockSizes) (ident : IdentFields) → sizes.short ≡ ident.short → sizes.long ≡ ident.long → sizes ≡ sizes_in ident
same_sizes sizes ident short long = λ i. record { short = short i; long = long i }

by_packet : (tables : ConstantTables) (number : ℕ) (link : FilmLink) (j : ℕ) (bytes : List ℕ) → slice_get (link_block_packets number link) j ≡ Some (record { link = number; bytes = bytes }) → link_block tables number link j ≡ block_in_link tables link bytes
unfolding link_block
by_packet tables number link j bytes at = ap (λ (found : Option BlockPacket). option_map_or (λ (packet : BlockPacket). block_in_link tables link packet.bytes) found []) at

-- the block of the packet of these bytes is block j of the link
pub block_of_bytes : (number : ℕ) (bytes : List ℕ) (held : HeldLink) (j : ℕ) (tables : ConstantTables) (setup : SetupFields) (found : List ℕ) → (it : BlockAt number bytes held j) → IsHeld bytes held → (link_in bytes held).setup ≡ setup
    → found ≡ it.packet_bytes → packet_block tables held.sizes setup found ≡ link_block tables number (link_in bytes held) j
block_of_bytes number bytes held j tables setup found it h setup-is bytes-are =
    let link = link_in bytes held in
    ap (λ (sizes : BlockSizes). packet_block tables sizes setup found) (same_sizes held.sizes link.ident h.short h.long)
    ∙ ap (λ (s : SetupFields). packet_block tables (sizes_in link.ident) s found) (sym setup-is)
    ∙ ap (λ (bs : List ℕ). block_in_link tables link bs) bytes-are
    ∙ sym (by_packet tables number link j it.packet_bytes it.block)
