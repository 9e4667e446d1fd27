pub mod Dumps
pub mod Kept
