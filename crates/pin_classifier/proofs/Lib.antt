pub mod Anywhere
pub mod Backticks
pub mod Blanks
pub mod Endings
pub mod Firsts
pub mod Sets
pub mod Sightings
pub mod Together
