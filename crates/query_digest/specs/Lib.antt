pub mod Digest
pub mod Hash
pub mod Parts
pub mod Runs
pub mod Table
pub mod Writing
