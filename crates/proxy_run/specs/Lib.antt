pub mod Load
pub mod LoadWords
pub mod Replay
pub mod ReportWords
pub mod Reports
pub mod Run
pub mod Serve
pub mod Words
