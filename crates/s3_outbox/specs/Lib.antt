pub mod Pending
pub mod Outbox
