pub mod PieceLemmas
pub mod BlockLemmas
pub mod PartLemmas
pub mod RunLemmas
