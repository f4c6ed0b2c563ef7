pub mod BaseLemmas
pub mod ConfigLemmas
pub mod EventsLemmas
pub mod FaultsLemmas
pub mod KeptLemmas
pub mod ReadingLemmas
pub mod RunLemmas
pub mod SignLemmas
