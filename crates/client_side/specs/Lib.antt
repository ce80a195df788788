pub mod Login
pub mod Client
pub mod Steps
pub mod Reading
pub mod Laws
pub mod HeldUp
