pub mod Deciding
pub mod Opening
pub mod Losing
pub mod Coming
