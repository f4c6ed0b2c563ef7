pub mod DeviceLemmas
pub mod KeysLemmas
pub mod WriterLemmas
