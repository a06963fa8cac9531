pub mod Billing
pub mod Netting
