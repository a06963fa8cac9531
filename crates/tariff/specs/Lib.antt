pub mod Codes
pub mod Tariff
