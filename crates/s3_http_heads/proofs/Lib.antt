pub mod TextLemmas
pub mod NameLemmas
pub mod VerdictLemmas
pub mod SearchLemmas
pub mod HeadLemmas
pub mod TargetLemmas
pub mod ParameterLemmas
pub mod WholeLemmas
