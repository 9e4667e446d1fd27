pub mod Midst
pub mod FrameSteps
pub mod LineSteps
pub mod KeptBlocks
