pub mod Logins
pub mod Commands
pub mod Replies
pub mod Manual
