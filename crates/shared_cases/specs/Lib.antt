pub mod Tests
pub mod Cases
pub mod Refusals
