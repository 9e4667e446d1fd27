pub mod PartSteps
pub mod PlayedSteps
pub mod LinkSteps
