mod Counting
mod Pairs
pub mod Gaps
pub mod HalfHours
pub mod Laws
pub mod Totals
pub mod View
