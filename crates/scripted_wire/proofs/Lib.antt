pub mod Left
pub mod Hosting
pub mod Sound
pub mod Staged
pub mod Reading
pub mod Playing
pub mod Serving
