pub mod Setups
pub mod Errors
pub mod Accounts
pub mod Arrivals
pub mod Answers
pub mod Refusals
pub mod Openings
