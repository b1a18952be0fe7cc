pub mod Symbol
pub mod Name
