pub mod Configured
pub mod Homes
