pub mod Reading
pub mod Becoming
pub mod Readable
pub mod Begun
pub mod Going
pub mod Telling
pub mod Binding
