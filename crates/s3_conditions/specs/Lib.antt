pub mod Conditions
pub mod Dates
pub mod Laws
pub mod Range
pub mod Tags
pub use Rattle.s3_terms.specs.Code
pub use Rattle.s3_terms.specs.Fault
