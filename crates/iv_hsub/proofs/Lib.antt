pub mod Terms
pub mod Stated
pub mod Theory
