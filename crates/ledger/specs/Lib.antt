pub mod DemandThree
pub mod Encoding
pub mod Running
