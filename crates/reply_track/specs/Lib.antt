pub mod Grammar
pub mod Payloads
pub mod Replying
pub mod Runs
pub mod Steps
pub mod Tracking
