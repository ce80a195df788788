pub mod Documents
pub mod Keys
pub mod OneMore
pub mod Patterns
pub mod RowSteps
pub mod Steps
