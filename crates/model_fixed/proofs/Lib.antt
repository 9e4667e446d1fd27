pub mod Examples
pub mod Rounding
