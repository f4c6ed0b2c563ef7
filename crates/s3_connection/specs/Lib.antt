pub mod Connection
pub mod Holds
pub mod Output
pub use Rattle.s3_session.specs.Output as Session
pub use Rattle.s3_machine.specs.History
