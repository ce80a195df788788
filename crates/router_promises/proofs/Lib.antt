pub mod Saying
pub mod Refusals
pub mod Lapses
pub mod Causes
pub mod Cares
