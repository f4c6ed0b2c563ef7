pub mod EndedLemmas
pub mod ServedConnectionLemmas
pub mod ServedLemmas
