pub mod Files
pub mod Curves
pub mod Setups
pub mod DrawExamples
pub mod Written
pub mod ScriptLines
pub mod DrawnScripts
pub mod Films
