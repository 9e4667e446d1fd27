pub mod Points
pub mod Floors
pub mod Curves
pub mod CurveLaws
