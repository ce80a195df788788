pub mod Evicted
pub mod Again
pub mod Stepped
