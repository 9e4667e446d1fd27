pub mod FilmLines
pub mod Links
pub mod Dumps
pub mod Laws
