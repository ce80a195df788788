pub mod DecimalSteps
pub mod Joined
pub mod PieceSteps
