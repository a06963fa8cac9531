pub mod CriticalDays
pub mod Hours
pub mod Packing
pub mod Schedules
