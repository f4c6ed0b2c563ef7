pub mod IdLemmas
pub mod NameLemmas
pub mod TagLemmas
