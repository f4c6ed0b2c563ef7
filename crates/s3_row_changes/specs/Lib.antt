pub mod Uploads
pub mod Dropping
pub mod Trading
