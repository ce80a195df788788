pub mod Classes
pub mod Endings
pub mod InsertIds
pub mod Pins
