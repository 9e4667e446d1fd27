pub mod Setups
pub mod HeadLaws
pub mod Parts
