pub mod FaultLemmas
pub mod FeedingLemmas
pub mod HoldsLemmas
pub mod OutputLemmas
