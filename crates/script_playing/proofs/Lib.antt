pub mod FilmCursors
pub mod LaneSteps
