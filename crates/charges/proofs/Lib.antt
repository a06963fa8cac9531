pub mod Laws
mod Lines
