pub mod FieldLemmas
pub mod PrintingLemmas
pub mod SaidLemmas
pub mod ReadingLemmas
pub mod ScriptLemmas
