-- Any block of a film, alone: that of the packet at its place among all that decode to blocks,
-- under its link's setup and the constants of the synthesis.
use Rattle.std.specs.Prelude.{ℕ, ℤ, List, [], slice_get}
use Rattle.std.specs.Option.{option_map_or}
use Rattle.model_setup.specs.declared.head.IdentFields.{IdentFields}
use Rattle.model_synthesis.specs.Tables.{ConstantTables}
use Rattle.model_line.specs.Acceptance.{FilmLink}
use Rattle.model_line.specs.PacketRows.{BlockPacket, block_packets}
use Rattle.model_block.specs.declared.sizes.BlockSizes.{BlockSizes}
use Rattle.model_block.specs.PacketBlocks.{packet_block}

-- the sizes of a link's blocks
abbrev pub sizes_in : IdentFields → BlockSizes
sizes_in ident = record { short = ident.short; long = ident.long }

abbrev pub block_in_link : ConstantTables → FilmLink → List ℕ → List (List ℤ)
block_in_link tables link bytes = packet_block tables (sizes_in link.ident) link.setup bytes

abbrev pub block_of_packet : ConstantTables → List FilmLink → BlockPacket → List (List ℤ)
block_of_packet tables links packet =
    option_map_or (λ link. block_in_link tables link packet.bytes) (slice_get links packet.link) []

-- block k of a film
unfoldable pub film_block : ConstantTables → List FilmLink → ℕ → List (List ℤ)
film_block tables links k =
    option_map_or (block_of_packet tables links) (slice_get (block_packets links) k) []
