pub mod Schema
pub mod Listed
pub mod Stored
pub mod Statements
pub mod Keeping
pub mod Making
pub mod Reading
