pub mod Account
pub mod Codes
pub mod Refusals
pub mod Replies
pub mod Tallies
