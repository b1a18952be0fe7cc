pub mod Schematics
pub mod Goal
pub mod Order
