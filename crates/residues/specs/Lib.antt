pub mod Layout
pub mod Decoders
pub mod ResidueLaws
