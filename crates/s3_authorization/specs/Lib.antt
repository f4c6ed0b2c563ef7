pub mod Authorization
pub mod Expires
pub mod Spelling
pub use Rattle.s3_terms.specs.Code
pub use Rattle.s3_text.specs.Digest
