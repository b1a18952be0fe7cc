pub mod Subst
pub mod Laws
pub mod Entries
pub mod Putting
