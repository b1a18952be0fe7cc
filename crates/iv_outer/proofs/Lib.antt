pub mod Numbers
pub mod PieceSteps
pub mod OpenSteps
pub mod PlaceSteps
pub mod JoinSteps
pub mod ReadingSteps
pub mod PlacedSteps
