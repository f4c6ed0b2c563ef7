pub mod Code
pub mod Fault
pub mod Status
