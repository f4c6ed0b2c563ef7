pub mod FoundLemmas
pub mod MadeLemmas
pub mod ReadyLemmas
pub mod StandingLemmas
pub mod StepLemmas
pub mod StepsLemmas
pub mod VersioningLemmas
