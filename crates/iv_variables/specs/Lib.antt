pub mod Variables
pub mod Firsts
pub mod Raised
pub mod Same
pub mod Key
pub mod Laws
