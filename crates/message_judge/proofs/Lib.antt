pub mod Answering
pub mod Commands
pub mod Judging
pub mod Routing
pub mod Typed
