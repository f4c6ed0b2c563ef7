pub mod CompletionLemmas
pub mod LawLemmas
pub mod ListedLemmas
pub mod PartLemmas
