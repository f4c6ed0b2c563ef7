pub mod MakingLemmas
pub mod PartLemmas
pub mod ReadingLemmas
