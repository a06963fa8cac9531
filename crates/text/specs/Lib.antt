pub mod Splitting
pub mod Text
