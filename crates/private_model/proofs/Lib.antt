mod Answering
mod Decoding
mod Law
pub mod Maps
mod Meeting
mod Pairs
mod Past
mod Preparing
mod Running
mod Sending
mod Sessions
mod Stands
mod Tabling
mod Tame
mod FromLaws
mod Lasting
