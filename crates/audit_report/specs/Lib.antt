pub mod Keys
pub mod Lines
pub mod Report
pub mod Tallies
pub mod Text
