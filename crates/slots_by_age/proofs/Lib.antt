pub mod Has
pub mod Counted
pub mod Moved
pub mod Views
