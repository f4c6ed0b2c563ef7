pub mod CellLemmas
pub mod LineLemmas
pub mod StepLemmas
