pub mod Registers
pub mod Counting
pub mod DayView
