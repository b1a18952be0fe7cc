pub mod Results
pub mod Goals
pub mod Variables
pub mod Orders
