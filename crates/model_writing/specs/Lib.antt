pub mod SetupLaws
pub mod SetupWriting
