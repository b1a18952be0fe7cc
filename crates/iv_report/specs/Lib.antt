pub mod Width
pub mod Place
pub mod Text
