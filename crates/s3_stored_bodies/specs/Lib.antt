pub mod Held
pub mod Numbers
