pub mod Says
pub mod Marking
