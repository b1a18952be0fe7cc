pub mod Quantified
pub mod Laws
