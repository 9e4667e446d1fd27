pub mod PlainHalves
pub mod Playing
