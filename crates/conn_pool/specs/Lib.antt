pub mod Shelves
pub mod Pools
pub mod Sized
