pub mod Changes
pub mod Leaving
pub mod Queries
pub mod Bodies
pub mod Rowids
pub mod Unique
