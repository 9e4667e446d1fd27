pub mod Commands
pub mod Texts
pub mod Courses
pub mod Outcome
