pub mod AttributeLemmas
pub mod ColumnLemmas
pub mod ItemLemmas
pub mod KeptLemmas
pub mod NumberLemmas
pub mod OrderLemmas
pub mod PairLemmas
pub mod TagLemmas
