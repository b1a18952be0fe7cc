pub mod Forms
pub mod FormLevels
pub mod Laws
