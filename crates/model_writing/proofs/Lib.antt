pub mod Kept
pub mod Numbers
pub mod Books
pub mod Floors
pub mod Residues
pub mod Mappings
pub mod Whole
pub mod WritingExamples
