pub mod Payload
pub mod Pieces
pub mod Runs
pub mod Content
