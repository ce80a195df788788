mod Ends
pub mod Lawful
pub mod Saying
pub mod Written
