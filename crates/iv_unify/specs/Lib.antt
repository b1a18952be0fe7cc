pub mod Pairs
pub mod Simplify
pub mod Values
pub mod Unifiers
pub mod Scope
pub mod Laws
pub mod Names
