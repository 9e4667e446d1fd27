pub mod FilmHalves
pub mod Lanes
pub mod Reports
pub mod Laws
