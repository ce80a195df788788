pub mod Takes
pub mod Joins
