pub mod Sessions
pub mod Answers
pub mod Works
pub mod Desks
