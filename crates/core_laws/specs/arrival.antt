pub mod Comes
pub mod Looks
pub mod Ups
