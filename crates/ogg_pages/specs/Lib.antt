pub mod Next
pub mod Leaps
pub mod Ring
pub mod Checksums
pub mod Written
