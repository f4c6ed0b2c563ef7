pub mod SumLemmas
pub mod TextLemmas
pub mod SpellingLemmas
pub mod LawLemmas
