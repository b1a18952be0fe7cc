pub mod Facts
pub mod Stated
pub mod Theory
