pub mod Abstracting
pub mod Spines
pub mod Forms
pub mod Among
