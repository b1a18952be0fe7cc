pub mod Letter
pub mod Form
pub mod Start
pub mod Spelling
pub mod Token
pub mod Place
pub mod Shape
pub mod Cut
