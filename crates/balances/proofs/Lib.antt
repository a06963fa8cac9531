pub mod Balances
mod Bills
pub mod Reachable
mod Steps
