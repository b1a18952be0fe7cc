pub mod Found
pub mod FactLevels
pub mod Facts
pub mod Props
pub mod Laws
