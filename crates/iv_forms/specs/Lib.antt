pub mod Lexeme
pub mod FactForm
pub mod PropForm
pub mod MethodForm
pub mod CommandForm
pub mod Readable
