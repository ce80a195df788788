pub mod Entrants
pub mod Clients
pub mod ClientRows
pub mod Machining
pub mod Settles
pub mod Tested
pub mod Keeping
mod Tabling
mod Homes
mod Others
pub mod Goings
mod Givings
mod Last
pub mod LinkWrites
pub mod LinkOpens
pub mod Carrying
pub mod Coming
pub mod Rooming
pub mod Writings
mod Causing
mod Partings
pub mod Notes
pub mod Hears
mod Closings
mod LinkLosses
pub mod Callings
pub mod Numbers
pub mod Acting
pub mod Standing
pub mod ClientCloses
pub mod Needs
pub mod Needed
pub mod Staging
