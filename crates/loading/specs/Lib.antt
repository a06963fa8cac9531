pub mod Loading
pub mod Numbers
pub mod Reading
