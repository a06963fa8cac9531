pub mod Balances
pub mod Calls
