pub mod Meanings
pub mod FilmMeanings
pub mod LikeBlocks
pub mod Stages
pub mod Turns
