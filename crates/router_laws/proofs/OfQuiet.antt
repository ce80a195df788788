pub mod Making
pub mod Staying
