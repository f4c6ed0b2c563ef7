pub mod LawLemmas
pub mod ListLemmas
pub mod VersionLemmas
