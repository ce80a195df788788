pub mod Commands
pub mod Hashes
pub mod Held
pub mod Listed
pub mod Text
