pub mod MeasureSteps
pub mod WordSteps
pub mod CutSteps
pub mod SymbolSteps
pub mod TypeReading
pub mod Signs
pub mod Reading
pub mod TableSteps
pub mod TypeSound
pub mod Sound
pub mod TypeStable
pub mod Stable
pub mod Examples
pub mod Stack
pub mod TypeStack
mod TypeNodes
mod TypeSteps
mod TypeDecides
