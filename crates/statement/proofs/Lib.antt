mod Giving
mod Lines
mod Reaching
pub mod Status
mod Texts
