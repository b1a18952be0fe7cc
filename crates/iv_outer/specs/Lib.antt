pub mod Words
pub mod Classify
pub mod Piece
pub mod Opened
pub mod Unreadable
pub mod Command
