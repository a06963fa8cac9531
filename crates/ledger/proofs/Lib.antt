mod Decoding
mod Progress
mod Records
pub mod Roundtrip
