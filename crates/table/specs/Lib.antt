pub mod Explaining
pub mod Filling
pub mod Numbers
pub mod Reasons
pub mod Table
