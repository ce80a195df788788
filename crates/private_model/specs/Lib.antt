pub mod Commands
pub mod Headline
pub mod Honest
pub mod Lawful
pub mod Names
pub mod Story
pub mod View
pub mod Worlds
