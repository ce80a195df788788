pub mod Wholes
pub mod Becoming
pub mod Reads
pub mod Tells
