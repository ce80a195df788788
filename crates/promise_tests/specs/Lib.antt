pub mod Same
pub mod Telling
pub mod Judging
pub mod Waiting
pub mod Tests
