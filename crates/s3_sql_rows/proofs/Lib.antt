pub mod CleanLemmas
pub mod KnownLemmas
pub mod SendLemmas
pub mod SnapshotLemmas
