mod Filling
pub mod Laws
pub mod Writing
