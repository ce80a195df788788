pub mod Changes
pub mod Drained
pub mod Heard
pub mod Links
pub mod Machine
pub mod Queued
pub mod Round
pub mod Serving
