pub mod Aged
pub mod Tables
