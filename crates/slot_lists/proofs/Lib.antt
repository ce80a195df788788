pub mod Each
pub mod Rings
pub mod Members
pub mod Spelling
pub mod Walking
pub mod Walks
