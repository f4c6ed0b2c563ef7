pub mod FoundLemmas
pub mod SendLemmas
pub mod HeldLemmas
