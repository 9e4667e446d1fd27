pub mod Shapes
pub mod Setups
