pub mod Conditions
pub mod Fixity
pub mod Kept
pub mod Signature
pub mod Table
