pub mod Found
pub mod Serve
pub mod Served
