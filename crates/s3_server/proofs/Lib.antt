pub mod BaseLemmas
pub mod RoundLemmas
pub mod SendLemmas
pub mod ServedLemmas
pub mod ToldLemmas
