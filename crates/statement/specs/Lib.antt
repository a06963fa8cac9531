pub mod Ending
pub mod Giving
pub mod Status
