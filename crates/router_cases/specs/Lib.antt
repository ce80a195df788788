pub mod Worked
pub mod Pieces
pub mod Ended
pub mod Executed
