pub mod EncodingLemmas
pub mod ListLemmas
pub mod ParameterLemmas
pub mod HeaderLemmas
