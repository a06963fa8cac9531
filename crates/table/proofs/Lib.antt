mod Cells
mod Filling
pub mod Fitting
mod Telling
pub mod Laws
mod Numbers
pub mod ReadsBack
mod Showing
mod Texts
mod Writing
