pub mod Account
pub mod Ended
pub mod Limits
pub mod Served
pub mod ServedConnection
pub mod Told
pub use Rattle.s3_connection.specs.Output
pub use Rattle.s3_machine.specs.History
