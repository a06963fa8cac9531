pub mod Buffers
pub mod Laws
pub mod Lengths
pub mod Opening
pub mod Printed
mod Quiet
mod Stopped
pub mod Streams
