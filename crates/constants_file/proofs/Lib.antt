pub mod Finding
pub mod Sections
pub mod SlopeSizes
pub mod TurnPlaces
