mod Names
pub mod Dues
pub mod Rows
mod Same
mod Clear
mod Stays
pub mod Answering
mod Changed
mod Moves
mod Hears
mod Leaves
mod Working
