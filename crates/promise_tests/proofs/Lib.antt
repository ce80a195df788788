pub mod Same
pub mod Moments
pub mod Telling
pub mod Judging
pub mod Waiting
pub mod Whole
