pub mod Freed
pub mod Like
pub mod Spared
pub mod Seats
pub mod Taken
pub mod Steps
