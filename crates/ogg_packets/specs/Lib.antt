pub mod Pieces
pub mod Entries
pub mod Kept
