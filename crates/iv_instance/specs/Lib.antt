pub mod Converted
pub mod Laws
