pub mod Values
pub mod Filled
pub mod Bins
pub mod Channels
pub mod AllSums
