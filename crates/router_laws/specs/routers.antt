pub mod Enters
pub mod Somehow
