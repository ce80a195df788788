pub mod Stands
pub mod Spares
