pub mod Counting
pub mod Folding
pub mod Joining
pub mod LongestRuns
pub mod Starting
