pub mod SearchTree
pub mod Moments
pub mod Pull
pub mod Unfold
pub mod Laws
