pub mod Digits
mod Months
mod Parts
pub mod Sizes
