pub mod Parting
pub mod Reading
