pub mod Starts
pub mod ByteFields
pub mod Texts
