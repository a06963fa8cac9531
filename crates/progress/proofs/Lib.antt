mod Expecting
mod Storing
pub mod Lines
mod Kept
pub mod Marks
pub mod RunLines
