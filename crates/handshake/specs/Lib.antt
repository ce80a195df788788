pub mod Capability
pub mod Reading
pub mod Spelling
pub mod Greeting
pub mod Response
pub mod Switch
