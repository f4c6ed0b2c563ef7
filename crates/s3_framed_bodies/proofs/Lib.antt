pub mod CodingLemmas
pub mod LawLemmas
pub mod DataLemmas
pub mod CodedLemmas
