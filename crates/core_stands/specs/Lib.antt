pub mod Grounds
pub mod Clients
pub mod Servers
pub mod Stands
