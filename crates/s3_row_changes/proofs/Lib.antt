pub mod ChangeLemmas
pub mod LawLemmas
pub mod PartLemmas
pub mod PlaceLemmas
pub mod RowLemmas
pub mod TradeLemmas
