pub mod Serves
pub mod Failures
