pub mod Letter
pub mod Reading
pub mod Command
