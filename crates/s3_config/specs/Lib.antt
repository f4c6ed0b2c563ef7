pub mod Settings
pub use Rattle.s3_names.specs.Names
pub use Rattle.s3_text.specs.Characters
