pub mod Below
pub mod Laws
mod Lengths
pub mod Weekday
