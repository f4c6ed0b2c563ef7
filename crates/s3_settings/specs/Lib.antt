pub mod Devices
pub mod Fault
pub mod Keys
pub mod Server
pub mod Settings
