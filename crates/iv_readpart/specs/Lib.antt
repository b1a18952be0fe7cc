pub mod Declarations
pub mod Commands
pub mod CommandLevels
