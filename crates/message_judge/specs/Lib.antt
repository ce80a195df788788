pub mod Callers
pub mod Drafts
pub mod Judging
pub mod Told
