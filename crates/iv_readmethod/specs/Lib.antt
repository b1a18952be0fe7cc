pub mod Patterns
pub mod Methods
pub mod MethodLevels
pub mod Laws
