pub mod Adding
pub mod Whole
