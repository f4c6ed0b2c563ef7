pub mod ArgumentLemmas
pub mod WordsLemmas
