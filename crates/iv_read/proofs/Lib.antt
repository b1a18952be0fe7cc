pub mod Lengths
pub mod Firsts
pub mod Tails
pub mod DeclarationsRead
pub mod CommandsRead
pub mod NotesRead
pub mod FormsRead
pub mod DeepPlaces
