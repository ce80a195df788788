pub mod Turned
pub mod Judged
pub mod Taken
pub mod Preparing
pub mod Administering
