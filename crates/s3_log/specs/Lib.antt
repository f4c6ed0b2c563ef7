pub mod KeyId
pub mod Line
pub mod Lines
pub mod Operation
pub mod Pending
pub mod Query
pub mod Request
pub mod Room
