pub mod ConditionLemmas
pub mod RangeLemmas
