pub mod Building
pub mod Conditions
pub mod Effects
pub mod Passing
pub mod Patterns
pub mod Rows
