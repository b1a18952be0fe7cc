pub mod CommandSteps
pub mod TokenOrder
pub mod PartSteps
pub mod WordSteps
