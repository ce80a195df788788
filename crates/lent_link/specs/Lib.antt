pub mod Hears
pub mod Links
pub mod Pieces
pub mod Reads
pub mod Rests
