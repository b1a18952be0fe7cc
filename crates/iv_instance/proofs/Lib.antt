pub mod Agreeing
pub mod Copies
