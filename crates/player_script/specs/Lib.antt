pub mod Words
pub mod Steps
pub mod Fronts
pub mod Bodies
