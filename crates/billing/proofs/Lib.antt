pub mod Laws
pub mod Limits
