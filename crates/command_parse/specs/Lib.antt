pub mod Meaning
pub mod Whole
pub mod Table
