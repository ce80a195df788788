pub mod Blind
pub mod Ends
pub mod Spelled
