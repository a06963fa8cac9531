pub mod Sessions
pub mod Taking
