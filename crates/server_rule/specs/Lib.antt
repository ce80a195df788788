pub mod Classes
pub mod Laws
pub mod Replies
pub mod Servers
pub mod Texts
