pub mod Typ
pub mod Term
pub mod Hyps
