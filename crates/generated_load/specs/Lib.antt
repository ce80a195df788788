pub mod Draws
pub mod Kinds
pub mod Talks
pub mod Configs
pub mod Server
pub mod Replies
pub mod Counts
pub mod Text
