pub mod Lost
pub mod Ending
