pub mod Joining
pub mod Numerals
pub mod Reading
