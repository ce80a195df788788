pub mod Worked
pub mod Aside
pub mod Cases
pub mod Executed
