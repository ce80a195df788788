pub mod File
pub mod Served
