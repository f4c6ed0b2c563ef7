pub mod CrcLemmas
pub mod DivisionLemmas
pub mod PieceLemmas
pub mod TableLemmas
mod StandardFacts
