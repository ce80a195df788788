pub mod Givings
pub mod Hears
pub mod Hearing
