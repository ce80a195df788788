pub mod Long
pub mod Client
pub mod Link
