pub mod Deciding
pub mod Facts
pub mod Kept
