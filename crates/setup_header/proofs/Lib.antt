mod HeadPlaces
mod Starts
pub mod Written
pub mod SetupChannels
pub mod SetupBytes
