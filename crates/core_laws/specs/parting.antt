pub mod Frames
pub mod Partings
