pub mod Knowing
pub mod Keeping
pub mod Rows
pub mod Mapping
pub mod Turning
pub mod Taking
