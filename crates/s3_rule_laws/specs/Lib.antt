pub mod Examples
pub mod Members
pub mod Preconditions
pub mod Queries
pub mod Ranges
pub mod SignedQueries
pub mod Sorting
pub mod TagLists
