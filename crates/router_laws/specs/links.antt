pub mod Steps
pub mod Opens
pub mod Writes
pub mod Loses
pub mod Closes
