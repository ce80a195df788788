pub mod Refusals
pub mod Refusing
pub mod Stories
pub mod Tally
