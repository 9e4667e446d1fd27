pub mod Patches
pub mod Portions
