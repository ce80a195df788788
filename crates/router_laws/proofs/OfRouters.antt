pub mod Entering
pub mod Fitting
pub mod Opening
