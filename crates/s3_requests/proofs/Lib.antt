pub mod CopySourceLemmas
pub mod DescriptionLemmas
pub mod KeptSumLemmas
pub mod LineLemmas
pub mod MemoryLemmas
pub mod OverrideLemmas
pub mod TokenLemmas
pub mod UnbrokenLemmas
