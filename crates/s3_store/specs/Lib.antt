pub mod Steps
pub mod Stored
pub use Rattle.s3_machine.specs.Step
