pub mod Drawn
pub mod Pages
pub mod SetupTables
