pub mod Across
pub mod Framing
pub mod Headers
pub mod Joins
pub mod Laid
pub mod Spelt
pub mod Taking
pub mod Worked
