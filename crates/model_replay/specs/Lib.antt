pub mod Slots
pub mod Claims
pub mod Errands
pub mod Courses
