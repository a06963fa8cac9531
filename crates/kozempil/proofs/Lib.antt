pub mod Accounts
mod Calls
mod Parts
