pub mod TySubst
pub mod Unifier
pub mod Solved
pub mod Pairs
pub mod Laws
