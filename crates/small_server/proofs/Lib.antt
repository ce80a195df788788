pub mod Honesty
pub mod Lawfulness
pub mod Told
