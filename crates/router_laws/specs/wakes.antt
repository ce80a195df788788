pub mod Settling
pub mod Calling
pub mod Waking
pub mod Deciding
