pub mod Goes
pub mod Marking
pub mod Homes
pub mod Readying
