pub mod Concerning
pub mod Links
