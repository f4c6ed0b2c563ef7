pub mod CountLemmas
pub mod UsesLemmas
pub mod PieceLemmas
