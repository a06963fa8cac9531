mod Periods
mod Reading
mod Writing
mod Written
pub mod Laws
