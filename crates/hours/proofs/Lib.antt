mod Days
mod Storing
pub mod Chunks
pub mod Laws
pub mod Packed
