pub mod Ending
pub mod Expected
pub mod Progressing
pub mod Readings
pub mod Values
