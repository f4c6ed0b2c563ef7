pub mod Steps
pub mod Puts
