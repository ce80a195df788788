pub mod Chains
pub mod Orders
