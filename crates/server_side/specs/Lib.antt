pub mod Account
pub mod Login
pub mod Backend
pub mod Hearing
pub mod Reading
pub mod Growth
pub mod Stages
pub mod Laws
