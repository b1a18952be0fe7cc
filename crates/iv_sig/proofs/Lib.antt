pub mod Any
pub mod BothWays
pub mod Closed
pub mod Declaring
pub mod Entries
pub mod Keeping
