pub mod Accepted
mod Tallied
