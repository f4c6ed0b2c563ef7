pub mod SoundLemmas
pub mod MissingLemmas
