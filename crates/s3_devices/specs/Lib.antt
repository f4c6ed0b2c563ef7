pub mod Device
pub mod Recorded
