pub mod HalfSums
pub mod Places
pub mod Blocks
pub mod Layouts
pub mod Shares
