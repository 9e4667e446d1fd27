pub mod Weights
pub mod Slopes
pub mod Written
pub mod Sides
pub mod Stretches
pub mod Powers
