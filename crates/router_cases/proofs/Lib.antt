mod Honest
pub mod OnLogs
pub mod Computed
