pub mod PacketParts
pub mod PacketBlocks
pub mod FilmBlocks
