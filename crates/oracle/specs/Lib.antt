pub mod Entries
pub mod Made
pub mod Runs
pub mod Turns
pub mod World
