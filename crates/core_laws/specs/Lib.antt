pub mod parting
pub mod arrival
pub mod taking
pub mod hearing
pub mod writing
pub mod entry
pub mod clients
pub mod links
