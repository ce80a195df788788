mod Ending
mod Turns
pub mod Keeping
mod Learning
mod Loads
