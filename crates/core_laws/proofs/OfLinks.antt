pub mod Uncalled
pub mod Desks
pub mod Begins
pub mod Opens
pub mod Writes
pub mod Composed
pub mod OneRead
pub mod Lost
