pub mod Binding
pub mod Bound
pub mod Spined
pub mod Abstracted
pub mod Forming
pub mod Retyped
pub mod Invariant
pub mod Members
