pub mod Claiming
pub mod Counting
pub mod ErrandTurns
pub mod ErrandLaws
pub mod SlotLaws
pub mod Examples
pub mod CourseLaws
