mod Counting
pub mod Digests
mod InOrder
mod KeyOrder
mod LineSteps
mod Reported
mod Tallying
