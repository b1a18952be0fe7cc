pub mod Class
pub mod Table
pub mod Spell
pub mod Step
