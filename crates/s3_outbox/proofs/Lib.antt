pub mod AllLemmas
pub mod PartLemmas
pub mod SendLemmas
pub mod SentLemmas
pub mod WovenLemmas
