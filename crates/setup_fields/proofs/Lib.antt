pub mod Puts
pub mod Fronts
