pub mod Computed
pub mod Tested
