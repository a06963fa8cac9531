pub mod Laws
mod Nameplates
