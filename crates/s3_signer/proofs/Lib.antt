pub mod LineLemmas
pub mod MessageLemmas
pub mod GrammarLemmas
pub mod VerifiedLemmas
pub mod NumberLemmas
pub mod ChunkedLemmas
pub mod PresignedLemmas
