pub mod Bits
pub mod Places
pub mod Reading
pub mod Writing
