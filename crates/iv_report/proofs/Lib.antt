pub mod WidthSteps
