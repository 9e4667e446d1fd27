pub mod Draws
pub mod MadeConstants
pub mod MadeSetup
pub mod MadeScript
pub mod MadeFilm
pub mod FilmRead
pub mod Laws
