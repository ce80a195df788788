pub mod Done
pub mod Hearing
pub mod Kept
pub mod Reading
pub mod Rows
pub mod Telling
pub mod Then
pub mod Working
