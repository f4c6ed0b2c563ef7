pub mod OpeningLemmas
pub mod ReadingLemmas
