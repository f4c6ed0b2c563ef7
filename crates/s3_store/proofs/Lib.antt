pub mod CallLemmas
pub mod CopyLemmas
pub mod DispatchLemmas
pub mod SourceLemmas
pub mod StepLemmas
pub mod UploadLemmas
