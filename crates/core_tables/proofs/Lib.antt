pub mod Passing
pub mod Keeping
pub mod Settled
pub mod Heard
